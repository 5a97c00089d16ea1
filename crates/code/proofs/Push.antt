-- One row more: what a push leaves, and what lists that hold rows hold after it. Assumes nothing.
use mathlib.Core.Path.{◌≡◌, refl, sym, ap, ◌∙◌, subst}
use mathlib.Core.Bool.{Bool, true, false, ◌&&◌}
use mathlib.Core.Logic.{⊎_elim}
use mathlib.Core.List.{List, [], ◌∷◌, ◌++◌, append_assoc}
use Prim.Native.Nat.{ℕ, zero, suc, ◌+◌, ◌*◌, ◌<◌, ◌≤◌}
use native.Mathlib.Nat.{eq-or-lt_of_le, le_of_suc-le-suc}
use native.Mathlib.Omega.{arith}
use borrow.Author.Tests.{lt-ltb, le-ltb, le-leb, lt-leb, ltb-true, leb-true}
use lib.Dec.{leb, ltb}
use lib.ListN.{length, get_or, take, drop, set, length-append, length-drop, length-set, get_or-append}
use lib.Seq.{take-append-le, take-take, take_at, length-take-le, drop_at, get_or-append_seam, get_or-set_same, get_or-set_other}
use borrow.Rule.Slice.PartMut.{put_mid}
use Rattle.std.proofs.lemmas.List.{drop-drop}
use Rattle.binary.specs.Meaning.{Row, All}
use Rattle.binary.proofs.Bits.{&&_false, and_in, and_out}
use Rattle.code.specs.Lists.{start_of, row_at, Held, Flat}
use Rattle.code.specs.Push.{room?, written, Pushed}
use Rattle.code.proofs.Lists.{row_within}
use Rattle.code.proofs.Flat.{start_next, starts_ascend}

----------------------------------------------------------------------
-- The qubits written

pub written_part : (flat part row : List ℕ) (start k : ℕ) → part ≡ row → k ≡ length row → put_mid start k flat part ≡ written flat start row
unfolding written
written_part flat part row start k e n =
    rw (e, n, drop-drop (length row) start flat) (sym (append_assoc (take start flat) row (drop (start + length row) flat)))

----------------------------------------------------------------------
-- The ways through a push

module _ (flat ends : List ℕ) (r : ℕ) (row : Row) where
  none_written : false ≡ room? flat ends r row → Pushed flat ends r row false flat ends
  none_written e = record { told = e; row = refl; end = refl }

  pub push_endless : length ends ≤ r → Pushed flat ends r row false flat ends
  unfolding room?
  push_endless h = none_written (rw (le-ltb r (length ends) h))

  module _ (s : ℕ) (starts : s ≡ start_of ends r) where
    pub push_past : length flat < s + length row → Pushed flat ends r row false flat ends
    unfolding room?
    push_past h = none_written (rw (← starts, lt-leb (s + length row) (length flat) h, &&_false))

    pub push_wide : 65535 < s + length row → Pushed flat ends r row false flat ends
    unfolding room?
    push_wide h = none_written (rw (← starts, le-ltb (s + length row) 65536 (omega arith), &&_false))

    pub push_done : (flat' : List ℕ) → r < length ends → s + length row ≤ length flat → s + length row ≤ 65535 → flat' ≡ written flat s row
        → Pushed flat ends r row true flat' (set ends r (s + length row))
    unfolding room?
    push_done flat' h₁ h₂ h₃ e =
        record {
          told = rw (← starts, lt-ltb r (length ends) h₁, le-leb (s + length row) (length flat) h₂, lt-ltb (s + length row) 65536 (omega arith));
          row = e ∙ ap (λ (k : ℕ). written flat k row) starts;
          end = ap (λ (k : ℕ). set ends r (k + length row)) starts;
        }

----------------------------------------------------------------------
-- The list with a row written

module _ (flat : List ℕ) (start : ℕ) (row : Row) (fits : start + length row ≤ length flat) where
  length_head : length (take start flat ++ row) ≡ start + length row
  length_head = omega (arith, length-append (take start flat) row, length-take-le start flat (omega arith))

  length_written : length (written flat start row) ≡ length flat
  unfolding written
  length_written =
      omega
      (arith, length_head, length-append (take start flat ++ row) (drop (start + length row) flat), length-drop (start + length row) flat)

  before_written : (e : ℕ) → e ≤ start → take e (written flat start row) ≡ take e flat
  unfolding written
  before_written e h =
      ap (take e) (append_assoc (take start flat) row (drop (start + length row) flat))
      ∙ take-append-le e (take start flat) (row ++ drop (start + length row) flat) (omega (arith, length-take-le start flat (omega arith)))
      ∙ take-take e start flat h

  row_written : drop start (take (start + length row) (written flat start row)) ≡ row
  unfolding written
  row_written =
      ap (drop start) (take_at (take start flat ++ row) (drop (start + length row) flat) (start + length row) length_head)
      ∙ drop_at (take start flat) row start (length-take-le start flat (omega arith))

room_out : (flat ends : List ℕ) (r : ℕ) (row : Row) → room? flat ends r row ≡ true → (r < length ends) × (start_of ends r + length row ≤ length flat)
unfolding room?
room_out flat ends r row t =
    let a = and_out (ltb r (length ends) && leb (start_of ends r + length row) (length flat)) _ t in
    let b = and_out (ltb r (length ends)) _ a.0 in
    (ltb-true r (length ends) b.0, leb-true (start_of ends r + length row) (length flat) b.1)

pub push_lengths : (flat ends flat' ends' : List ℕ) (r : ℕ) (row : Row) (done : Bool) → Pushed flat ends r row done flat' ends'
    → (length flat' ≡ length flat) × (length ends' ≡ length ends)
push_lengths flat ends flat' ends' r row true p = (
  ap length p.row ∙ length_written flat (start_of ends r) row (room_out flat ends r row (sym p.told)).1,
  ap length p.end ∙ length-set ends r (start_of ends r + length row),
)
push_lengths flat ends flat' ends' r row false p = (ap length p.row, ap length p.end)

----------------------------------------------------------------------
-- The rows that are held afterwards

-- A row whose start, end and part stay is the same row.
row_kept : (flat flat' ends ends' : List ℕ) (r : ℕ) → get_or ends' r 0 ≡ get_or ends r 0 → start_of ends' r ≡ start_of ends r
    → length flat' ≡ length flat → take (get_or ends r 0) flat' ≡ take (get_or ends r 0) flat → row_at flat' ends' r ≡ row_at flat ends r
unfolding row_at
row_kept flat flat' ends ends' r stops starts long same = rw (stops, starts, long, same)

-- Rows whose ends stay.
pub flat_kept : (rows : List Row) (flat ends ends' : List ℕ) → Flat rows flat ends → length ends' ≡ length ends
    → ((r : ℕ) → r < length rows → get_or ends' r 0 ≡ get_or ends r 0) → Flat rows flat ends'
unfolding start_of
flat_kept rows flat ends ends' f long same = record { count = omega (arith, f.count); held = still }
  where
    starts : (r : ℕ) → r < length rows → start_of ends' r ≡ start_of ends r
    starts zero h = refl
    starts (suc r) h = same r (omega arith)

    still : (r : ℕ) → r < length rows → Held flat ends' r (get_or rows r [])
    still r h =
        record {
          ends_at = same r h ∙ (f.held r h).ends_at ∙ ap (λ (s : ℕ). s + length (get_or rows r [])) (sym (starts r h));
          within = omega (arith, same r h, (f.held r h).within);
          is = row_kept flat flat ends ends' r (same r h) (starts r h) refl refl ∙ (f.held r h).is;
        }

module _ (rows : List Row) (flat ends : List ℕ) (f : Flat rows flat ends) (row : Row) where
  abbrev start : ℕ
  start = start_of ends (length rows)

  abbrev flat⁺ : List ℕ
  flat⁺ = written flat start row

  abbrev ends⁺ : List ℕ
  ends⁺ = set ends (length rows) (start + length row)

  start_kept : (r : ℕ) → r ≤ length rows → start_of ends⁺ r ≡ start_of ends r
  unfolding start_of
  start_kept zero h = refl
  start_kept (suc r) h = get_or-set_other ends (length rows) r (start + length row) 0 (λ e. omega arith)

  module _ (ended : length rows < length ends) (fits : start + length row ≤ length flat) where
    held_before : (r : ℕ) → r < length rows → Held flat⁺ ends⁺ r (get_or rows r [])
    unfolding start_of
    held_before r h =
        record {
          ends_at = end_kept ∙ (f.held r h).ends_at ∙ ap (λ (s : ℕ). s + length (get_or rows r [])) (sym (start_kept r (omega arith)));
          within = omega (arith, end_kept, (f.held r h).within, length_written flat start row fits);
          is =
              row_kept flat flat⁺ ends ends⁺ r end_kept (start_kept r (omega arith)) (length_written flat start row fits)
              (before_written flat start row fits (get_or ends r 0) (starts_ascend rows flat ends f (suc r) (length rows) h (omega arith)))
              ∙ (f.held r h).is;
        }
      where
        end_kept : get_or ends⁺ r 0 ≡ get_or ends r 0
        end_kept = get_or-set_other ends (length rows) r (start + length row) 0 (λ e. omega arith)

    held_last : Held flat⁺ ends⁺ (length rows) row
    held_last =
        record {
          ends_at = end ∙ ap (λ (s : ℕ). s + length row) (sym starts);
          within = omega (arith, end, length_written flat start row fits);
          is =
              sym (row_within flat⁺ ends⁺ (length rows) start (start + length row) (sym starts) (sym end) (omega (arith, length_written flat start row fits)))
              ∙ row_written flat start row fits;
        }
      where
        starts : start_of ends⁺ (length rows) ≡ start
        starts = start_kept (length rows) (omega arith)

        end : get_or ends⁺ (length rows) 0 ≡ start + length row
        end = get_or-set_same ends (length rows) (start + length row) 0 ended

    flat_more : Flat (rows ++ (row ∷ [])) flat⁺ ends⁺
    flat_more =
        record {
          count = omega (arith, length-append rows (row ∷ []), length-set ends (length rows) (start + length row));
          held = λ r h.
              ⊎_elim (λ (e : r ≡ length rows). rw (e, get_or-append_seam rows row [] []) held_last)
              (λ l. rw (get_or-append rows (row ∷ []) [] r l) (held_before r l))
              (eq-or-lt_of_le (le_of_suc-le-suc (subst (λ (n : ℕ). r < n) total h)));
        }
      where
        total : length (rows ++ (row ∷ [])) ≡ suc (length rows)
        total = omega (arith, length-append rows (row ∷ []))

-- After a push that is done the lists hold the row too.
pub flat_push : (rows : List Row) (flat ends flat' ends' : List ℕ) (r : ℕ) (row : Row) (done : Bool) → Flat rows flat ends → r ≡ length rows
    → Pushed flat ends r row done flat' ends' → done ≡ true → Flat (rows ++ (row ∷ [])) flat' ends'
flat_push rows flat ends flat' ends' r row done f e p d =
    let room = room_out flat ends (length rows) row (rw e at (sym p.told ∙ d)) in
    rw (rw (d, e) at p.row, rw (d, e) at p.end) (flat_more rows flat ends f row room.0 room.1)

----------------------------------------------------------------------
-- Room

all_at : (P : Row → Type 0) (rows : List Row) → All P rows → (r : ℕ) → r < length rows → P (get_or rows r [])
all_at P [] a r h = absurd (omega arith)
all_at P (row ∷ rows) a zero h = a.0
all_at P (row ∷ rows) a (suc r) h = all_at P rows a.1 r (omega arith)

-- Rows of at most 16 qubits start at most 16 elements apart.
start_bound : (rows : List Row) (flat ends : List ℕ) → Flat rows flat ends → All (λ row. length row ≤ 16) rows → (r : ℕ) → r ≤ length rows
    → start_of ends r ≤ 16 * r
unfolding start_of
start_bound rows flat ends f short zero h = omega arith
start_bound rows flat ends f short (suc r) h =
    omega (arith, start_next rows flat ends f r h, start_bound rows flat ends f short r (omega arith), all_at (λ row. length row ≤ 16) rows short r h)

-- There is room for 1,024 rows of at most 16 qubits.
pub flat_room : (rows : List Row) (flat ends : List ℕ) (r : ℕ) (row : Row) → Flat rows flat ends → r ≡ length rows
    → All (λ row. length row ≤ 16) rows → length row ≤ 16 → length rows < 1024 → 16384 ≤ length flat → 1024 ≤ length ends
    → room? flat ends r row ≡ true
unfolding room?
flat_room rows flat ends r row f e short small few long wide =
    let bound = start_bound rows flat ends f short r (omega arith) in
    and_in (and_in (lt-ltb r (length ends) (omega arith)) (le-leb (start_of ends r + length row) (length flat) (omega arith)))
    (lt-ltb (start_of ends r + length row) 65536 (omega arith))
