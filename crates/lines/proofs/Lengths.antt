-- How long the lines of an answer can be. Assumes nothing.
use mathlib.Core.Path.{◌≡◌, refl, sym}
use mathlib.Core.Bool.{Bool, true, false, cond}
use mathlib.Core.List.{List, [], ◌∷◌}
use Prim.Native.Nat.{ℕ, suc, ◌+◌, ◌*◌, ◌≤◌, ◌<◌, min}
use native.Mathlib.Omega.{arith}
use borrow.Author.Tests.{leb-true}
use lib.Dec.{eqb, leb}
use lib.ListN.{length, length-append, take, length-take}
use Rattle.machine.specs.declared.Word.{Word}
use Rattle.machine.specs.declared.Word.TheVariants.{Certain, Unsure, Spent, Stopped}
use Rattle.machine.specs.declared.HalfReport.{HalfReport}
use Rattle.machine.specs.Words.{finished?}
use Rattle.records.specs.declared.Answer.{Answer}
use Rattle.records.specs.declared.Answer.TheVariants.{Refused, Taken, Complete, Decoded}
use Rattle.std.specs.Prelude.{None, Some}
use Rattle.records.specs.Table.{refusal_number}
use Rattle.text.specs.Text.{number, Puts}
use Rattle.text.proofs.Digits.{decimal_long, decimal_most}
use Rattle.lines.specs.Lines.{word_text, flips, flip_text, count_text, half_line, code_line, refused_line, lines_of, room_for, Lined}

word_most : (w : Word) → length (word_text w) ≤ 8
word_most Certain = omega arith
word_most Unsure = omega arith
word_most Word.None = omega arith
word_most Spent = omega arith
word_most Stopped = omega arith

count_most : (h : HalfReport) → length (count_text h) ≤ 84
count_most h =
    simp length-append (omega (arith, decimal_long h.fixed, decimal_long h.turns, decimal_long h.guesses, decimal_long h.live))

flip_most : (q : ℕ) (b : Bool) → q < 65536 → length (cond b [] (number q)) ≤ 6
flip_most q true h = omega arith
flip_most q false h = omega (arith, decimal_most 5 q (omega arith) (omega arith) (omega arith))

flips_most : (q : ℕ) (xs : List ℕ) → q + length xs ≤ 65536 → length (flips q xs) ≤ 6 * length xs
unfolding flips
flips_most q [] h = omega arith
flips_most q (c ∷ xs) h =
    simp length-append (omega (arith, flip_most q (eqb c 0) (omega arith), flips_most (suc q) xs (omega arith)))

flip_text_most : (b : Bool) (x : List ℕ) (n : ℕ) → n < 65536 → length (flip_text b x n) ≤ 5 + 6 * min n (length x)
flip_text_most false x n h = omega arith
flip_text_most true x n h =
    let l : length (take n x) ≡ min n (length x) = length-take n x in
    omega (arith, flips_most 0 (take n x) (omega arith))

half_most : (c : ℕ) (h : HalfReport) (x : List ℕ) (n : ℕ) → n < 65536 → length (half_line c h x n) ≤ 99 + 6 * min n (length x)
unfolding half_line
half_most c h x n w =
    simp length-append (omega (arith, word_most h.word, simp length-append at (count_most h), flip_text_most (finished? h.word) x n w))

-- No answer is longer than its room.
pub lines_most : (kind : ℕ) (a : Answer) (x z : List ℕ) (n : ℕ) → n < 65536 → length (lines_of kind a x z n) ≤ room_for n x z
unfolding code_line refused_line lines_of room_for
lines_most kind (Refused r) x z n h =
    simp length-append (omega (arith, decimal_long (refusal_number r), decimal_long kind))
lines_most kind Taken x z n h = omega arith
lines_most kind (Complete s) x z n h =
    simp length-append (omega (arith, decimal_long s.n, decimal_long s.x, decimal_long s.z))
lines_most kind (Decoded r) x z n h =
    simp length-append (omega (arith, half_most 88 r.x x n h, half_most 90 r.z z n h))

-- The lines of an answer were put where there is room for them, or nothing was.
module _ (text : List ℕ) (most at : ℕ) (old : List ℕ) where
  pub lined : {new : List ℕ} {r : ℕ} → true ≡ leb (at + most) (length old) → length text ≤ most → Puts text at old new r → Lined text most at old new (Some r)
  lined t l p =
      let h : at + most ≤ length old = leb-true (at + most) (length old) (sym t) in
      record { told = t; put = (p.bytes, omega (arith, p.ends), omega (arith, p.ends)); none = λ e. cc }

  pub unlined : false ≡ leb (at + most) (length old) → Lined text most at old old None
  unlined t = record { told = t; put = tt; none = λ e. refl }
