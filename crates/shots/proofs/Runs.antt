-- From block to block. Assumes nothing.
use mathlib.Core.Path.{◌≡◌, refl, sym, ◌∙◌}
use mathlib.Core.Bool.{Bool, true, false, ◌||◌}
use mathlib.Core.Logic.{◌⊎◌, inl, inr, ⊎_elim}
use mathlib.Core.List.{List, [], ◌++◌}
use Prim.Native.Nat.{ℕ, ◌+◌, ◌-◌, ◌^◌, ◌≤◌, ◌<◌}
use native.Mathlib.Omega.{arith}
use borrow.Author.Tests.{eqb-false}
use lib.ListN.{length, length-append, length-drop, take, drop}
use lib.Seq.{take-add, length-take-le}
use Rattle.records.specs.declared.State.{State}
use Rattle.records.specs.States.{fresh_state}
use Rattle.claim.specs.Calls.{Passed}
use Rattle.input.specs.declared.Refilled.{Refilled}
use Rattle.cutting.specs.Cutting.{next_of}
use Rattle.cutting.proofs.Nexts.{next_empty}
use Rattle.blocks.specs.Blocks.{Sent, begun}
use Rattle.blocks.proofs.Sending.{sent_none, sent_join, sent_longer}
use Rattle.shots.specs.declared.run.Between.{Between}
use Rattle.shots.specs.Run.{record_most, no_tally, no_output, start, standing, is_over, BlockRead, BlockTaken, bytes_read, BlocksTaken, none, another, Ran}
use Rattle.shots.proofs.Rests.{rest_none, rest_short}

none_over : (a b c : Bool) → a || b || c ≡ false → (a ≡ false) × (b ≡ false) × (c ≡ false)
none_over false false false e = (refl, refl, refl)
none_over true b c e = let z : ◌≡◌ {A = ℕ} 0 1 = cc in absurd (omega arith)
none_over false true c e = let z : ◌≡◌ {A = ℕ} 0 1 = cc in absurd (omega arith)
none_over false false true e = let z : ◌≡◌ {A = ℕ} 0 1 = cc in absurd (omega arith)

-- The run up to a block, with so many refills left. Each that did not end it brought a byte.
pub record Runs (l k : Passed) (block : List ℕ) (a : Between) (refills : ℕ) : Type 0 where
  pub input : List ℕ
  pub blocks : BlocksTaken l a k block input
  pub sent : Sent a.ended (begun fresh_state no_tally l input) no_output (standing a k (take a.held block)) a.output
  pub over : a.over ≡ is_over a
  pub held : a.held ≤ length block
  pub left : a.output.failed ≡ false → a.last ≡ false → next_of a.ended (take a.held block) ≡ 0
  pub bytes : a.over ≡ false → 2 ^ 64 - 1 ≤ refills + length input

pub runs_none : (l : Passed) (block : List ℕ) (st : State) → st ≡ fresh_state → Runs l l block (record { state = st; tally = no_tally; held = 0; output = no_output; last = false; ended = false; over = false; error = start.error }) (2 ^ 64 - 1)
runs_none l block st e = rw e (record {
  input = [];
  blocks = none;
  sent = sent_none false (begun fresh_state no_tally l []) no_output (omega arith) (omega arith);
  over = refl;
  held = omega arith;
  left = λ g z. sym (next_empty false (take 0 block) (length-take-le 0 block (omega arith)));
  bytes = λ z. omega arith;
})

-- Where it is not over nothing is.
module _ {l k : Passed} {block : List ℕ} {a : Between} {n : ℕ} (s : Runs l k block a n) (o : a.over ≡ false) where
  pub goes_on : (a.output.failed ≡ false) × (a.last ≡ false) × (a.ended ≡ false)
  goes_on = none_over a.output.failed a.last a.ended (sym s.over ∙ o)

  -- What is held is no whole record, so there is room behind it.
  pub goes_room : record_most ≤ length block → a.held < length block
  goes_room h =
      omega (arith, rest_short a.ended (take a.held block) (s.left goes_on.0 goes_on.1), length-take-le a.held block s.held)

-- A block more.
module _ {l k : Passed} {old : List ℕ} {a : Between} {n : ℕ} (s : Runs l k old a n) (j : Passed) (mid new : List ℕ) (r : Between) (f : Refilled) (g : BlockRead a old mid f) (u : BlockTaken a f k mid j new r) (p : 0 < n) where
  fits : f.end ≤ length mid
  fits = omega (arith, g.same, g.refills.most (omega (arith, g.room)))

  -- The bytes that were read stand behind those held.
  all_read : take a.held old ++ bytes_read a.held f mid ≡ take f.end mid
  all_read =
      let e : a.held + (f.end - a.held) ≡ f.end = omega (arith, g.refills.more) in
      rw (sym g.refills.stays) (sym (rw e at (take-add a.held (f.end - a.held) mid)))

  read_long : length (bytes_read a.held f mid) ≡ f.end - a.held
  read_long = length-take-le (f.end - a.held) (drop a.held mid) (omega (arith, length-drop a.held mid, fits))

  byte_more : f.ended ≡ false → a.held < f.end
  byte_more e = omega (arith, g.refills.more, eqb-false f.end a.held (sym g.refills.ended ∙ e))

  sent_more : Sent r.ended (begun fresh_state no_tally l (s.input ++ bytes_read a.held f mid)) no_output (standing r j (take r.held new)) r.output
  sent_more =
      let z : Sent f.ended (standing a k (take a.held old ++ bytes_read a.held f mid)) a.output (standing r j (take r.held new)) r.output = rw all_read u.sent in
      rw u.ended (sent_join (sent_longer f.ended (bytes_read a.held f mid) (rw (goes_on s g.goes).2 at s.sent)) z)

  pub runs_more : Runs l j new r (n - 1)
  runs_more = record {
    input = s.input ++ bytes_read a.held f mid;
    blocks = another s.blocks g u;
    sent = sent_more;
    over = u.over;
    held = u.held;
    left = λ x y. rw u.ended (u.left x y);
    bytes = λ e. omega (arith, length-append s.input (bytes_read a.held f mid), read_long, s.bytes g.goes, byte_more (sym u.ended ∙ (none_over r.output.failed r.last r.ended (sym u.over ∙ e)).2));
  }

-- All blocks.
ends_used : (b : Bool) (m n : ℕ) → (b ≡ false → 2 ^ 64 - 1 ≤ n + m) → (b ≡ true) ⊎ (n ≡ 0) → (b ≡ true) ⊎ (2 ^ 63 ≤ m)
ends_used true m n h w = inl refl
ends_used false m n h w =
    inr (⊎_elim (λ (e : false ≡ true). let z : ◌≡◌ {A = ℕ} 0 1 = cc in absurd (omega arith)) (λ e. omega (arith, h refl)) w)

pub runs_ran : {l k : Passed} {block : List ℕ} {a : Between} {n : ℕ} → Runs l k block a n → (a.over ≡ true) ⊎ (n ≡ 0) → Ran l k block a
runs_ran {l} {k} {block} {a} {n} s w = record {
  input = s.input;
  blocks = s.blocks;
  sent = s.sent;
  left = λ e x y. omega (arith, rest_none (take a.held block) (rw e at (s.left x y)), length-take-le a.held block s.held);
  over = s.over;
  ends = ends_used a.over (length s.input) n s.bytes w;
}
