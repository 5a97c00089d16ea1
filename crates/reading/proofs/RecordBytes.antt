-- What a record's kind and its length make of its bytes. Assumes nothing.
use mathlib.Core.Path.{◌≡◌, refl, ap, ◌∙◌}
use mathlib.Core.Bool.{true, false}
use mathlib.Core.Option.{none}
use mathlib.Core.List.{List}
use Prim.Native.Nat.{ℕ, suc, ◌*◌, ◌≤◌}
use lib.ListN.{length, get_or}
use borrow.Author.Tests.{eq-eqb, ne_eqb}
use Rattle.binary.proofs.Bits.{never}
use Rattle.reading.specs.declared.Shape.{Shape}
use Rattle.reading.specs.declared.Shape.TheVariants.{Unknown, Wrong, Size, Lose, Light, Unread, Decode, Logical}
use Rattle.records.specs.Records.{kind_of, whole_length, wrong, read_if, record_of}
use Rattle.reading.specs.Shapes.{kind_as, width_in, unknown?, RecordAs}

pub record_empty : (bytes : List ℕ) → length bytes ≡ 0 → RecordAs bytes Wrong
unfolding record_of RecordAs
record_empty bytes e = rw (eq-eqb (length bytes) 0 e)

module _ (bytes : List ℕ) (some_bytes : length bytes ≡ 0 → ⊥) (s : Shape) (named : kind_of (get_or bytes 0 0) ≡ kind_as s) where
  whole : record_of bytes ≡ read_if bytes (kind_as s)
  unfolding record_of
  whole = rw (ne_eqb (length bytes) 0 some_bytes, named)

  pub record_unknown : unknown? s ≡ true → RecordAs bytes Unknown
  unfolding RecordAs
  record_unknown e = whole ∙ ap (read_if bytes) (nothing s e)
    where
      nothing : (t : Shape) → unknown? t ≡ true → kind_as t ≡ none
      nothing Unknown i = refl
      nothing Wrong i = refl
      nothing Size i = never i refl
      nothing (Shape.Row x w) i = never i refl
      nothing Lose i = never i refl
      nothing (Light x) i = never i refl
      nothing (Unread x) i = never i refl
      nothing Decode i = never i refl
      nothing Logical i = never i refl

  -- A record of a kind is as long as the kind says, or it is not of its length.
  pub record_wrong : unknown? s ≡ false → (length bytes ≡ whole_length (kind_as s) → ⊥) → RecordAs bytes Wrong
  unfolding RecordAs
  record_wrong e h = whole ∙ other s e h
    where
      other : (t : Shape) → unknown? t ≡ false → (length bytes ≡ whole_length (kind_as t) → ⊥) → read_if bytes (kind_as t) ≡ wrong
      other Unknown i j = never refl i
      other Wrong i j = never refl i
      other Size i j = rw (ne_eqb (length bytes) 7 j)
      other (Shape.Row x w) i j = rw (ne_eqb (length bytes) (suc (2 * w)) j)
      other Lose i j = rw (ne_eqb (length bytes) 3 j)
      other (Light x) i j = rw (ne_eqb (length bytes) 3 j)
      other (Unread x) i j = rw (ne_eqb (length bytes) 3 j)
      other Decode i j = rw (ne_eqb (length bytes) 4 j)
      other Logical i j = rw (ne_eqb (length bytes) 3 j)

  pub record_right : unknown? s ≡ false → width_in s ≤ 16 → length bytes ≡ whole_length (kind_as s) → RecordAs bytes s
  unfolding RecordAs
  record_right e few h = is s e few h whole
    where
      is : (t : Shape) → unknown? t ≡ false → width_in t ≤ 16 → length bytes ≡ whole_length (kind_as t) → record_of bytes ≡ read_if bytes (kind_as t) → RecordAs bytes t
      is Unknown i f j w = never refl i
      is Wrong i f j w = never refl i
      is Size i f j w = w ∙ rw (eq-eqb (length bytes) 7 j)
      is (Shape.Row x k) i f j w = (w ∙ rw (eq-eqb (length bytes) (suc (2 * k)) j), f)
      is Lose i f j w = w ∙ rw (eq-eqb (length bytes) 3 j)
      is (Light x) i f j w = w ∙ rw (eq-eqb (length bytes) 3 j)
      is (Unread x) i f j w = w ∙ rw (eq-eqb (length bytes) 3 j)
      is Decode i f j w = w ∙ rw (eq-eqb (length bytes) 4 j)
      is Logical i f j w = w ∙ rw (eq-eqb (length bytes) 3 j)
