-- One turn of the loop over the records of a block. Assumes nothing.
use mathlib.Core.Path.{◌≡◌, refl, ◌∙◌}
use mathlib.Core.Bool.{Bool}
use mathlib.Core.Logic.{◌⊎◌, ⊎_elim}
use mathlib.Core.List.{List}
use Prim.Native.Nat.{ℕ, ◌+◌, ◌≤◌, ◌<◌}
use native.Mathlib.Omega.{arith}
use lib.ListN.{length, length-set, set}
use lib.Seq.{length-sets}
use Rattle.records.specs.declared.Reply.{Reply}
use Rattle.records.specs.Lists.{Lent}
use Rattle.records.specs.Promise.{Promise}
use Rattle.claim.specs.Calls.{passed_of, Step}
use Rattle.taking.specs.declared.Progress.{Progress}
use Rattle.taking.specs.Taking.{Stand, One, next, line_of, Took}
use Rattle.taking.specs.Progress.{stand_of, record_at, text_of, Ready, Going, Answered}
use Rattle.cutting.proofs.Nexts.{next_at}
use Rattle.taking.proofs.Answers.{answered_stand}
use Rattle.taking.proofs.Calls.{took_more}

-- The call.
abbrev call_of : List ℕ → Lent → Lent → Reply → Step
call_of bytes old new reply = record { bytes = bytes; work = old.work; six = old.six; reply = reply; left = new }

module _ (e : Bool) (w : Stand) (p r : Progress) (block out text places bytes : List ℕ) (most : ℕ) (old new : Lent) (reply : Reply)
    (t : Took e w (stand_of p (passed_of old) block) p.put p.noted out places)
    (h : 0 < p.next) (d : Ready e p block out (length places))
    (b : bytes ≡ record_at p block)
    (s : Promise p.state bytes old new reply)
    (m : length places ≡ most)
    (a : Answered e p reply block new.six.x.correction new.six.z.correction out text most r) where
  one : One e (stand_of p (passed_of old) block) (call_of bytes old new reply)
  one = record { goes = d.goes; more = rw d.next at h; bytes = b ∙ rw d.next; keeps = s }

  line : text_of p reply block new.six.x.correction new.six.z.correction ≡ line_of (call_of bytes old new reply)
  line = rw b

  put_line : r.put ≡ p.put + length (line_of (call_of bytes old new reply))
  put_line = a.put ∙ rw line

  stand : stand_of r (passed_of new) block ≡ next e (stand_of p (passed_of old) block) (call_of bytes old new reply)
  stand =
      answered_stand e p r reply block _ _ out text most (call_of bytes old new reply) (passed_of old) d.next (next_at e block p.taken p.next h d.next) b refl a

  pub turn_took : Took e w (stand_of r (passed_of new) block) r.put r.noted text (set places p.noted r.put)
  turn_took =
      rw (stand, a.noted, put_line, a.text, line) (took_more e w (stand_of p (passed_of old) block) p.put p.noted out places (call_of bytes old new reply) t one (omega (arith, put_line, a.fits)) d.place)

  text_long : length text ≡ length out
  text_long = rw a.text (length-sets out p.put (text_of p reply block new.six.x.correction new.six.z.correction))

  places_long : length (set places p.noted r.put) ≡ most
  places_long = length-set places p.noted r.put ∙ m

  pub turn_going : Going e r block text (set places p.noted r.put)
  turn_going =
      record { put = omega (arith, text_long, a.fits); noted = omega (arith, places_long, a.noted, d.place); ready = rw places_long a.ready }

  pub turn_onward : (n : ℕ) → (n < p.taken) ⊎ ((n ≡ p.taken) × (0 < p.next)) → n < r.taken
  turn_onward n = ⊎_elim (λ l. omega (arith, a.taken)) (λ q. omega (arith, a.taken, q.0))

  pub turn_within : r.taken ≤ length block
  turn_within = omega (arith, a.taken, next_at e block p.taken p.next h d.next)
