-- A column by the place of its bit: bit b of word k. Assumes nothing.
use mathlib.Core.Path.{◌≡◌}
use mathlib.Core.List.{List}
use Prim.Native.Nat.{ℕ, ◌+◌, ◌*◌, ◌/◌, ◌%◌, ◌<◌}
use native.Mathlib.Omega.{arith}
use lib.ListN.{get_or}
use Rattle.binary.specs.Words.{bit}
use Rattle.columns.specs.Planes.{planes, number_at, number}
use Rattle.columns.specs.Columns.{untaken}
use Rattle.binary.proofs.Weights.{bits_few}

pub untaken_at : (m : List ℕ) (k b : ℕ) → b < 64 → untaken m (64 * k + b) ≡ bit (get_or m (8448 + k) 0) b
unfolding untaken
untaken_at m k b h =
    let d : (64 * k + b) / 64 ≡ k = omega arith in
    let e : (64 * k + b) % 64 ≡ b = omega arith in
    rw (d, e)

pub number_at_lem : (m : List ℕ) (k b : ℕ) → b < 64 → number m (64 * k + b) ≡ number_at m (8192 + 16 * k) b 10
number_at_lem m k b h =
    let d : (64 * k + b) / 64 ≡ k = omega arith in
    let e : (64 * k + b) % 64 ≡ b = omega arith in
    rw (d, e)

pub number_few : (m : List ℕ) (c : ℕ) → number m c < 1024
number_few m c = bits_few 10 (planes m (8192 + 16 * (c / 64)) (c % 64))
