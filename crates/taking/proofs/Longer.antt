-- What was taken of bytes is taken of them when more come. Assumes nothing.
use mathlib.Core.Path.{◌≡◌, sym, ◌∙◌}
use mathlib.Core.Bool.{Bool, false}
use mathlib.Core.Logic.{⊎_elim}
use mathlib.Core.List.{List, ◌++◌}
use Prim.Native.Nat.{ℕ, ◌-◌, ◌≤◌, ◌<◌}
use native.Mathlib.Nat.{eq-zero-or-pos}
use native.Mathlib.Omega.{arith}
use lib.ListN.{length, length-append, get_or-append}
use lib.Seq.{take-append-le, drop-append-le}
use Rattle.claim.specs.Calls.{Step}
use Rattle.cutting.specs.Cutting.{whole_of, next_of}
use Rattle.taking.specs.Taking.{Stand, One, next, Takes, none, more}
use Rattle.cutting.proofs.Nexts.{next_whole, next_cut, next_within}

-- A record that is there whole stays so.
module _ (e : Bool) (l m : List ℕ) (h : 0 < next_of false l) where
  whole_there : whole_of l ≤ length l
  whole_there =
      ⊎_elim
      (λ (z : whole_of l - length l ≡ 0). omega arith)
      (λ p. let c : next_of false l ≡ 0 = next_cut false l (omega arith) in absurd (omega arith))
      (eq-zero-or-pos (whole_of l - length l))

  same_whole : whole_of (l ++ m) ≡ whole_of l
  same_whole = rw (get_or-append l m 0 0 (omega (arith, next_within false l)))

  pub next_longer : next_of e (l ++ m) ≡ next_of false l
  next_longer =
      next_whole e (l ++ m) (rw (same_whole, length-append l m) (omega (arith, whole_there))) ∙ same_whole ∙ sym (next_whole false l whole_there)

abbrev pub longer : Stand → List ℕ → Stand
longer w m = record { state = w.state; lists = w.lists; tally = w.tally; over = w.over; rest = w.rest ++ m }

module _ (e : Bool) (w : Stand) (m : List ℕ) (k : Step) (o : One false w k) where
  same_next : next_of e (w.rest ++ m) ≡ next_of false w.rest
  same_next = next_longer e w.rest m o.more

  one_longer : One e (longer w m) k
  one_longer =
      record { goes = o.goes; more = rw same_next o.more; bytes = rw (same_next, take-append-le (next_of false w.rest) w.rest m (next_within false w.rest)) o.bytes; keeps = o.keeps }

  stand_longer : next e (longer w m) k ≡ longer (next false w k) m
  stand_longer = rw (same_next, drop-append-le (next_of false w.rest) w.rest m (next_within false w.rest))

pub takes_longer : {w v : Stand} {ks : List Step} (e : Bool) (m : List ℕ) → Takes false w ks v → Takes e (longer w m) ks (longer v m)
takes_longer e m none = none
takes_longer e m (more {w} {v} {k} {ks} o r) =
    let t : Takes e (next e (longer w m) k) ks (longer v m) = rw (stand_longer e w m k o) (takes_longer e m r) in more (one_longer e w m k o) t
