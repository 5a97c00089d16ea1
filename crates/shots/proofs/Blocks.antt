-- A block of input. Assumes nothing.
use mathlib.Core.Path.{◌≡◌, sym, ◌∙◌}
use mathlib.Core.Bool.{Bool, false}
use mathlib.Core.List.{List, ◌++◌}
use Prim.Native.Nat.{ℕ, ◌+◌, ◌-◌, ◌≤◌}
use native.Mathlib.Omega.{arith}
use lib.ListN.{length, length-drop, take, drop}
use lib.Seq.{take-add, take_at, drop_at, length-take-le}
use Rattle.claim.specs.Calls.{Passed}
use Rattle.input.specs.declared.Refilled.{Refilled}
use Rattle.input.specs.Reading.{Keeps}
use Rattle.cutting.specs.Cutting.{next_of}
use Rattle.blocks.specs.declared.Block.{Block}
use Rattle.blocks.specs.Blocks.{Sent, begun, Done}
use Rattle.shots.specs.declared.run.Between.{Between}

drop_take : (n k : ℕ) (l : List ℕ) → n ≤ length l → drop n (take (n + k) l) ≡ take k (drop n l)
drop_take n k l h =
    rw (take-add n k l) (drop_at (take n l) (take k (drop n l)) n (length-take-le n l h))

-- A block: its records are taken, and what is left is moved to its front.
module _ (a : Between) (l k : Passed) (old new : List ℕ) (f : Refilled) (full : Bool) (b : Block) (h : ℕ) (fits : f.end ≤ length old) (last : a.last ≡ false) (room : full ≡ false) (d : Done f.ended full (begun a.state a.tally l (take f.end old)) a.output k (take f.end old) b) (m : Keeps old new b.taken f.end h) where
  taken_within : b.taken ≤ f.end
  taken_within = omega (arith, d.within, length-take-le f.end old fits)

  moved : (h ≡ f.end - b.taken) × (new ≡ take (f.end - b.taken) (drop b.taken old) ++ drop (f.end - b.taken) old)
  moved = m.moved taken_within fits

  left_long : length (take (f.end - b.taken) (drop b.taken old)) ≡ h
  left_long =
      length-take-le (f.end - b.taken) (drop b.taken old) (omega (arith, length-drop b.taken old, taken_within)) ∙ sym moved.0

  -- What is left is what is held.
  block_rest : take h new ≡ drop b.taken (take f.end old)
  block_rest =
      let e : b.taken + (f.end - b.taken) ≡ f.end = omega (arith, taken_within) in
      rw (moved.1, take_at (take (f.end - b.taken) (drop b.taken old)) (drop (f.end - b.taken) old) h left_long) (sym (rw e at (drop_take b.taken (f.end - b.taken) old (omega (arith, taken_within)))))

  pub block_taken : length new ≡ length old → Sent f.ended (record { state = a.state; lists = l; tally = a.tally; over = a.last; rest = take f.end old }) a.output (record { state = b.state; lists = k; tally = b.tally; over = b.over; rest = take h new }) b.output × (h ≤ length new) × (b.output.failed ≡ false → b.over ≡ false → next_of f.ended (take h new) ≡ 0)
  block_taken same =
      (rw (last, block_rest) d.sent, omega (arith, same, moved.0), λ g z. rw block_rest (d.left room g z))
