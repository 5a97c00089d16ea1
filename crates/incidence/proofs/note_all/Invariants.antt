-- `incidence::note_all` meets its contract: what is left of the row decides. Assumes nothing.
use mathlib.Core.Path.{◌≡◌}
use lib.ListN.{drop}
use Rattle.incidence.specs.Incidence.{note_all}
use Rattle.incidence.proofs.note_all.Given as goal

abbrev pub invariant-loop-q : goal.invariant-loop-q
invariant-loop-q l = note_all l.r.0 (drop l.q-index l.qubits) l.list ≡ note_all l.r.0 l.qubits l.initial.list
