-- Records taken and their lines handed to the output, one buffer after the other. Assumes nothing.
use mathlib.Core.Path.{◌≡◌, refl, sym, ◌∙◌}
use mathlib.Core.Bool.{Bool, true, false, cond, ◌||◌}
use mathlib.Core.List.{List, [], ◌++◌}
use Prim.Native.Nat.{ℕ, ◌+◌, ◌<◌}
use native.Mathlib.Omega.{arith}
use lib.ListN.{length, drop, get_or}
use Rattle.claim.specs.Calls.{Passed, Step}
use Rattle.output.specs.declared.Output.{Output}
use Rattle.output.specs.Writing.{Flushed}
use Rattle.output.proofs.Joining.{flushed_none, flushed_join}
use Rattle.taking.specs.declared.Progress.{Progress}
use Rattle.cutting.specs.Cutting.{next_of}
use Rattle.taking.specs.Taking.{Stand, none, lines_all, places_from}
use Rattle.cutting.specs.Room.{is_full}
use Rattle.taking.specs.Progress.{begin_of, stand_of, Filled}
use Rattle.cutting.proofs.Nexts.{next_at}
use Rattle.taking.proofs.Calls.{takes_join, lines_join, places_join, places_long, places_within, places_behind}
use Rattle.taking.proofs.Longer.{longer, takes_longer}
use Rattle.blocks.specs.declared.Block.{Block}
use Rattle.blocks.specs.Blocks.{Sent, stand, Emptied, Begins, Went}

-- No record.
pub sent_none : (e : Bool) (w : Stand) (o : Output) → o.bytes < 18446744073709551616 → o.records < 18446744073709551616 → Sent e w o w o
unfolding lines_all places_from
sent_none e w o b r =
    record { calls = []; takes = none; written = flushed_none o (omega arith) (omega arith) }

-- Lines behind lines.
module _ (ks js : List Step) (o m r : Output) (f : Flushed o (lines_all ks) (places_from 0 ks) m) (g : Flushed m (lines_all js) (places_from 0 js) r) where
  behind : (i : ℕ) → i < length (places_from 0 js) → get_or (places_from (0 + length (lines_all ks)) js) i 0 ≡ length (lines_all ks) + get_or (places_from 0 js) i 0
  behind i l =
      let e : 0 + length (lines_all ks) ≡ length (lines_all ks) + 0 = omega arith in
      rw e (places_behind (length (lines_all ks)) 0 js i l)

  pub lines_written : Flushed o (lines_all (ks ++ js)) (places_from 0 (ks ++ js)) r
  lines_written =
      rw (lines_join ks js, places_join 0 ks js) (flushed_join o m r (lines_all ks) (lines_all js) (places_from 0 ks) (places_from 0 js) (places_from (0 + length (lines_all ks)) js) f g (λ i l. omega (arith, places_within 0 ks i l)) (places_long (0 + length (lines_all ks)) js ∙ sym (places_long 0 js)) behind)

-- Records behind records.
pub sent_join : {e : Bool} {w v u : Stand} {o m r : Output} → Sent e w o v m → Sent e v m u r → Sent e w o u r
sent_join {e} {w} {v} {u} {o} {m} {r} s t =
    record { calls = s.calls ++ t.calls; takes = takes_join s.takes t.takes; written = lines_written s.calls t.calls o m r s.written t.written }

-- A buffer's records.
pub buffer_sent : (e : Bool) (p q : Progress) (o : Output) (l k : Passed) (block out places : List ℕ) (r : Block) → Filled e p l k block out places q → Emptied e q o block out places r → Sent e (stand_of p l block) o (stand r k block) r.output
buffer_sent e p q o l k block out places r f m =
    let t = f.took in
    rw (m.state, m.tally, m.taken, m.over) (record { calls = t.calls; takes = t.takes; written = rw (t.text, t.ends) at m.written.flushed })

-- A test that stops nothing.
pub stops_not : (full failed over : Bool) (n m : ℕ) → n ≡ cond (full || (failed || over)) 0 m → 0 < n → (full ≡ false) × (over ≡ false) × (n ≡ m)
stops_not true failed over n m e h = absurd (omega arith)
stops_not false true over n m e h = absurd (omega arith)
stops_not false false true n m e h = absurd (omega arith)
stops_not false false false n m e h = (refl, refl, e)

pub goes_on : (full : Bool) (n m : ℕ) → full ≡ false → n ≡ m → 0 < n → 0 < cond full 0 m
goes_on full n m f e h = rw f (omega arith)

-- A buffer's records of a block.
module _ (e : Bool) (b : Block) (q : Progress) (l k : Passed) (block out places old ends : List ℕ) (r : Block) (p : Begins e b block (length old) (length ends)) (f : Filled e (begin_of b.state b.tally b.taken e block (length old) (length ends)) l k block out places q) (m : Emptied e q b.output block out places r) where
  pub buffer_went : Went e b l k block r
  buffer_went =
      record {
        sent = rw p.goes (buffer_sent e _ q b.output l k block out places r f m);
        more = omega (arith, m.taken, f.onward (goes_on (is_full 0 (length old) 0 (length ends)) b.next (next_of e (drop b.taken block)) p.room p.next p.more));
        within = omega (arith, m.taken, f.within (omega (arith, next_at e block b.taken b.next p.more p.next)));
        next = m.next;
      }

-- The records of a block are taken.
pub block_done : (full failed over : Bool) (n m : ℕ) → n ≡ cond (full || (failed || over)) 0 m → n ≡ 0 → full ≡ false → failed ≡ false → over ≡ false → m ≡ 0
block_done full failed over n m e z f g h = sym (rw (f, g, h) at e) ∙ z

-- What was sent is sent when more comes.
pub sent_longer : {w v : Stand} {o r : Output} (e : Bool) (m : List ℕ) → Sent false w o v r → Sent e (longer w m) o (longer v m) r
sent_longer e m s =
    record { calls = s.calls; takes = takes_longer e m s.takes; written = s.written }
