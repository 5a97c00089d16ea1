-- How many reports are kept. Assumes nothing.
use mathlib.Core.Path.{◌≡◌}
use Prim.Native.Nat.{ℕ, ◌≤◌, ◌<◌}
use borrow.Author.Tests.{lt-ltb, le-ltb}
use Rattle.records.specs.Window.{kept_of}

pub kept_few : (m : ℕ) → m < 256 → kept_of m ≡ m
kept_few m h = rw (lt-ltb m 256 h)

pub kept_many : (m : ℕ) → 256 ≤ m → kept_of m ≡ 256
kept_many m h = rw (le-ltb m 256 h)
