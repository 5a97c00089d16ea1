-- What an output that has not failed has taken. Assumes nothing.
use mathlib.Core.Path.{◌≡◌, refl, sym, ◌∙◌}
use mathlib.Core.Bool.{Bool, true, false}
use mathlib.Core.Logic.{◌⊎◌, inl, inr, ⊎_elim}
use mathlib.Core.List.{List}
use Prim.Native.Nat.{ℕ, ◌≤◌, ◌<◌}
use native.Mathlib.Nat.{eq-or-lt_of_le}
use native.Mathlib.Omega.{arith}
use borrow.Author.Tests.{ltb-false}
use lib.ListN.{length, get_or}
use Rattle.output.specs.declared.Output.{Output}
use Rattle.counts.specs.Counts.{total}
use Rattle.output.specs.Writing.{Taken, Flushed}

pub never : (b : Bool) → b ≡ true → b ≡ false → ⊥
never b p q = let z : ◌≡◌ {A = ℕ} 0 1 = cc in omega arith

pub either : (b : Bool) → (b ≡ true) ⊎ (b ≡ false)
either true = inl refl
either false = inr refl

-- An output that has not failed had not failed before.
still_open : (o r : Output) → (o.failed ≡ true → r ≡ o) → r.failed ≡ false → o.failed ≡ false
still_open o r shut e = ⊎_elim (λ t. absurd (never _ t (rw (shut t) at e))) (λ f. f) (either o.failed)

-- It has taken the whole text, and so answered all records that end in it.
module _ (o r : Output) (text places : List ℕ) (f : Flushed o text places r) (e : r.failed ≡ false) where
  took : Taken o text places r
  took = f.taken (still_open o r f.shut e)

  all_taken : took.count ≡ length text
  all_taken = omega (arith, took.written.most, ltb-false took.count (length text) (sym took.written.failed ∙ e))

  pub all_bytes : r.bytes ≡ total o.bytes (length text)
  all_bytes = rw all_taken at took.bytes

  pub all_records : ((i : ℕ) → i < length places → get_or places i 0 ≤ length text) → r.records ≡ total o.records (length places)
  all_records within =
      rw (⊎_elim (λ q. q)
      (λ l. let a : took.count < get_or places took.whole 0 = took.answered.next l in absurd (omega (arith, within took.whole l, all_taken)))
      (eq-or-lt_of_le took.answered.most)) at took.records
