-- `logical::rank` meets its contract. Assumes nothing.
use Prim.Native.Nat.{ℕ}
use lib.ListN.{length-replicate, get_or-replicate}
use Rattle.logical.proofs.Ranking.{unranked, ranked}
use Rattle.logical.proofs.rank.Goals as goal

pub returns-in_default : goal.returns-in_default
returns-in_default c = unranked _ _ _ _ _ _ _ _ _ _ _ _ _ c.requires (length-replicate {A = ℕ} 1024 1) (λ q l. get_or-replicate {A = ℕ} 1024 q 1 0 l) (length-replicate {A = ℕ} 10240 0) (length-replicate {A = ℕ} 1024 0) c.pack_rows.ensures c.mark_fixed-found.ensures c.in_default.is

pub returns : goal.returns
returns c = ranked _ _ _ _ _ _ _ _ _ _ _ _ _ c.requires (length-replicate {A = ℕ} 1024 1) (λ q l. get_or-replicate {A = ℕ} 1024 q 1 0 l) (length-replicate {A = ℕ} 10240 0) (length-replicate {A = ℕ} 1024 0) c.pack_rows.ensures c.mark_fixed-found.ensures _ c.in-Some.is
