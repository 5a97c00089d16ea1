-- The promise of `step`, kind by kind, from what the function of the kind does. Assumes nothing.
use mathlib.Core.Path.{◌≡◌, refl, sym, ap, ap₂, ◌∙◌, subst}
use mathlib.Core.Bool.{Bool, true, false}
use mathlib.Core.Option.{some}
use mathlib.Core.List.{List}
use Prim.Native.Nat.{ℕ, ◌≤◌}
use lib.ListN.{length, get_or, take}
use Rattle.binary.proofs.Bits.{never}
use Rattle.records.specs.declared.State.{State}
use Rattle.records.specs.declared.Reply.{Reply}
use Rattle.records.specs.declared.Refusal.{Refusal}
use Rattle.records.specs.declared.Refusal.TheVariants.{Length}
use Rattle.records.specs.declared.Pauli.{Pauli}
use Rattle.records.specs.Records.{Set, lost, lit, unread, Record, unknown, wrong, size, row, add, report, encodes, number, numbers, record_of}
use Rattle.records.specs.History.{History}
use Rattle.records.specs.Table.{refusal, is_report}
use Rattle.records.specs.Lists.{Lists, Six, Lent, held, lent_of, short_lists, short_six}
use Rattle.records.specs.States.{saying}
use Rattle.records.specs.Steps.{Does}
use Rattle.records.specs.Promise.{Promise, Promised}
use Rattle.records.proofs.Answers.{answered_refused, says_refused, spared, promised}
use Rattle.records.proofs.Range.{long_lists}
use Rattle.loading.specs.Loading.{SizesTaken, RowTaken}
use Rattle.readout.specs.Readout.{Adds}
use Rattle.logical.specs.Logical.{Tests}
use Rattle.reading.specs.declared.Shape.{Shape}
use Rattle.reading.specs.declared.Shape.TheVariants.{Unknown, Wrong, Size, Lose, Light, Unread, Decode, Logical}
use Rattle.reading.specs.Shapes.{decode?, RecordAs}
use Rattle.stream.specs.Takes.{Takes}
use Rattle.reading.proofs.Numbers.{numbers_length}

-- The part of an array that holds the numbers of a record's bytes is a row.
pub row_read : (p : Pauli) (st : State) (flat ends body bytes : List ℕ) (w : ℕ) (short : Bool) (r : Reply) (flat' ends' : List ℕ)
    → w ≤ 16 → (w ≤ 16 → take w body ≡ numbers bytes 1 w) → RowTaken p st flat ends (take w body) short r flat' ends'
    → RowTaken p st flat ends (numbers bytes 1 w) short r flat' ends'
row_read p st flat ends body bytes w short r flat' ends' h e t = rw (e h) at t

----------------------------------------------------------------------
-- What the bytes are

module _ (bytes : List ℕ) (s : Shape) (v : RecordAs bytes s) where
  pub at_size : s ≡ Size → record_of bytes ≡ size (number bytes 1) (number bytes 3) (number bytes 5)
  unfolding RecordAs
  at_size e = subst (RecordAs bytes) e v

  pub at_row : (x : Pauli) (w : ℕ) → s ≡ Shape.Row x w → (record_of bytes ≡ row x (numbers bytes 1 w)) × (w ≤ 16)
  unfolding RecordAs
  at_row x w e = subst (RecordAs bytes) e v

  pub at_lose : s ≡ Lose → record_of bytes ≡ add lost (number bytes 1)
  unfolding RecordAs
  at_lose e = subst (RecordAs bytes) e v

  pub at_light : (x : Pauli) → s ≡ Light x → record_of bytes ≡ add (lit x) (number bytes 1)
  unfolding RecordAs
  at_light x e = subst (RecordAs bytes) e v

  pub at_unread : (x : Pauli) → s ≡ Unread x → record_of bytes ≡ add (unread x) (number bytes 1)
  unfolding RecordAs
  at_unread x e = subst (RecordAs bytes) e v

  at_logical : s ≡ Logical → record_of bytes ≡ encodes (number bytes 1)
  unfolding RecordAs
  at_logical e = subst (RecordAs bytes) e v

  at_unknown : s ≡ Unknown → record_of bytes ≡ unknown
  unfolding RecordAs
  at_unknown e = subst (RecordAs bytes) e v

  at_wrong : s ≡ Wrong → record_of bytes ≡ wrong
  unfolding RecordAs
  at_wrong e = subst (RecordAs bytes) e v

  -- A decode, or none.
  pub at_decode : decode? s ≡ true → record_of bytes ≡ report (get_or bytes 1 0) (number bytes 2)
  unfolding RecordAs
  at_decode e = by s v e
    where
      by : (t : Shape) → RecordAs bytes t → decode? t ≡ true → record_of bytes ≡ report (get_or bytes 1 0) (number bytes 2)
      by Unknown u f = never f refl
      by Wrong u f = never f refl
      by Size u f = never f refl
      by (Shape.Row x w) u f = never f refl
      by Lose u f = never f refl
      by (Light x) u f = never f refl
      by (Unread x) u f = never f refl
      by Decode u f = u
      by Logical u f = never f refl

  not_report : decode? s ≡ false → is_report (record_of bytes) ≡ false
  unfolding RecordAs
  not_report e = by s v e
    where
      by : (t : Shape) → RecordAs bytes t → decode? t ≡ false → is_report (record_of bytes) ≡ false
      by Unknown u f = rw u
      by Wrong u f = rw u
      by Size u f = rw u
      by (Shape.Row x w) u f = rw u.0
      by Lose u f = rw u
      by (Light x) u f = rw u
      by (Unread x) u f = rw u
      by Decode u f = never refl f
      by Logical u f = rw u

  ----------------------------------------------------------------------
  -- Any record but a decode

  -- Refusals 1 and 2.
  spoils : (n : Refusal) (w : Record) → record_of bytes ≡ w → is_report w ≡ false
      → ((short : Bool) (six : ℕ → Bool) (a : History) → refusal short six w a ≡ some n) → (short : Bool) (st : State) (l : Lists) (r : Reply)
      → r ≡ saying n false st → Takes short bytes st l l r
  unfolding Does
  spoils n w e i refuses short st l r k =
      record {
        keeps = record { flat = refl; ends = refl; shot = refl; spares = spared (record_of bytes) l; refused = λ m j. refl; says = rw e (says_refused w st r n (rw i k)) };
        does = λ window work six t. rw e (λ a h. answered_refused short six w a l n st r (refuses _ _ a) h (rw i k));
      }

  pub take_unknown : s ≡ Unknown → (short : Bool) (st : State) (l : Lists) (r : Reply) → r ≡ saying Refusal.Unknown false st → Takes short bytes st l l r
  unfolding refusal
  take_unknown e = spoils Refusal.Unknown unknown (at_unknown e) refl (λ short six a. refl)

  pub take_length : s ≡ Wrong → (short : Bool) (st : State) (l : Lists) (r : Reply) → r ≡ saying Length false st → Takes short bytes st l l r
  unfolding refusal
  take_length e = spoils Length wrong (at_wrong e) refl (λ short six a. refl)

  -- A decode is told apart before.
  pub take_no_decode : {C : Type 0} → decode? s ≡ false → s ≡ Decode → C
  take_no_decode e f = never refl (rw f at e)

  module _ (short : Bool) (st : State) (flat ends shot : List ℕ) (r : Reply) where
    abbrev l : Lists
    l = held flat ends shot

    pub take_size : s ≡ Size → (n x z : ℕ) → n ≡ number bytes 1 → x ≡ number bytes 3 → z ≡ number bytes 5 → SizesTaken n x z st short r
        → Takes short bytes st l l r
    take_size e n x z i j k d =
        let w : record_of bytes ≡ size n x z = at_size e ∙ λ t. size (sym i t) (sym j t) (sym k t) in
        record {
          keeps = record { flat = refl; ends = refl; shot = refl; spares = spared (record_of bytes) l; refused = λ m i. refl; says = rw w d.says };
          does = λ window work six t. rw w (d.does l six);
        }

    pub take_row : (x : Pauli) (w : ℕ) → s ≡ Shape.Row x w → (flat' ends' : List ℕ) → RowTaken x st flat ends (numbers bytes 1 w) short r flat' ends'
        → Takes short bytes st l (held flat' ends' shot) r
    take_row x w e flat' ends' d =
        let z = at_row x w e in
        record {
          keeps = record {
            flat = d.flat_long;
            ends = d.ends_long;
            shot = refl;
            spares = rw z.0 (record { flat = λ i. never refl i; ends = λ i. never refl i; shot = λ i. refl });
            refused = λ m i. let o = d.refused m i in ap₂ (λ (f g : List ℕ). held f g shot) o.0 o.1;
            says = rw z.0 d.says;
          };
          does = λ window work six t. rw z.0 (d.does six shot (rw (numbers_length bytes 1 w) z.1)
              (λ k. let o = long_lists l window work (sym t ∙ k) in (o.flat, o.ends)));
        }

    adds : (u : Set) (k : ℕ) → record_of bytes ≡ add u k → (shot' : List ℕ) → Adds short u k st shot shot' r → Takes short bytes st l (held flat ends shot') r
    adds u k e shot' d =
        record {
          keeps = record {
            flat = refl;
            ends = refl;
            shot = d.long;
            spares = rw e (record { flat = λ i. refl; ends = λ i. refl; shot = λ i. never refl i });
            refused = λ m i. ap (λ (x : List ℕ). held flat ends x) (d.refused m i);
            says = rw e d.says;
          };
          does = λ window work six t. rw e (d.does six flat ends (λ i. (long_lists l window work (sym t ∙ i)).shot));
        }

    pub take_add : (u : Set) → record_of bytes ≡ add u (number bytes 1) → (k : ℕ) → k ≡ number bytes 1 → (shot' : List ℕ) → Adds short u k st shot shot' r
        → Takes short bytes st l (held flat ends shot') r
    take_add u e k i = adds u k (e ∙ ap (add u) (sym i))

    pub take_logical : s ≡ Logical → (k : ℕ) → k ≡ number bytes 1 → Tests short k st flat ends r → Takes short bytes st l l r
    take_logical e k i d =
        let w : record_of bytes ≡ encodes k = at_logical e ∙ ap encodes (sym i) in
        record {
          keeps = record { flat = refl; ends = refl; shot = refl; spares = spared (record_of bytes) l; refused = λ m i. refl; says = rw w d.says };
          does = λ window work six t. rw w (d.does six shot);
        }

  ----------------------------------------------------------------------
  -- The promise

  pub step_other : decode? s ≡ false → (short : Bool) (st : State) (l l' : Lists) (window work : List ℕ) (six : Six) (r : Reply)
      → short ≡ short_lists l (length window) (length work) → Takes short bytes st l l' r → Promise st bytes (lent_of l window work six) (lent_of l' window work six) r
  step_other e short st l l' window work six r t d =
      promised (record_of bytes) st l l' window work six r (not_report e) d.keeps
      (subst (λ (b : Bool). Does b (short_six six) (record_of bytes) st l l' r) t (d.does (length window) (length work) (short_six six) t))

  pub step_decode : decode? s ≡ true → (st : State) (budget limit : ℕ) → budget ≡ get_or bytes 1 0 → limit ≡ number bytes 2 → (old new : Lent) (r : Reply)
      → Promised (report budget limit) st old new r → Promise st bytes old new r
  step_decode e st budget limit i j old new r d =
      subst (λ (w : Record). Promised w st old new r) (sym (at_decode e ∙ ap₂ report (sym i) (sym j))) d
