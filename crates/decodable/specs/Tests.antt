-- The tests of a decode.
--   lacking?    whether a list is short, or, in an altered state, the sizes are out of range
--   test_of     the reply that refuses a decode, by the tests in the table's order
use Rattle.std.specs.Prelude.{Bool, true, not, ◌||◌, cond, length, Result, Ok, Err}
use Rattle.records.specs.declared.Sizes.{Sizes}
use Rattle.records.specs.declared.State.{State}
use Rattle.records.specs.declared.Refusal.TheVariants.{Codeless, Spoiled, Short}
use Rattle.records.specs.Table.{in_range}
use Rattle.records.specs.Lists.{Lent, short_lists, short_six}
use Rattle.records.specs.States.{without_code, saying}
use Rattle.records.specs.declared.Reply.{Reply}

unfoldable pub lacking? : Sizes → Lent → Bool
lacking? z l = short_lists l.lists (length l.window) (length l.work) || short_six l.six z.n || not (in_range z.n z.x z.z)

unfoldable pub test_of : State → Bool → Result (Unit {0}) Reply
test_of st lacking =
    cond (without_code st.phase) (Err (saying Codeless true st))
    (cond st.spoiled (Err (saying Spoiled true st))
    (cond lacking (Err (saying Short true st))
    (Ok tt)))
