-- The start of a try: no qubit is open, then each that is marked so; the dangling rows. Assumes nothing.
use mathlib.Core.Path.{◌≡◌, refl, sym, ap, ◌∙◌, subst}
use mathlib.Core.Bool.{true, false}
use mathlib.Core.Logic.{inl}
use mathlib.Core.List.{List}
use Prim.Native.Nat.{ℕ, suc, ◌+◌, ◌%◌, ◌≤◌, ◌<◌}
use native.Mathlib.Numerals.{add-one}
use native.Mathlib.Omega.{arith}
use lib.ListN.{length, get_or}
use borrow.Author.Tests.{eq-eqb, ne_eqb}
use Rattle.std.specs.Prelude.{Some}
use Rattle.binary.specs.Bits.{tally}
use Rattle.binary.specs.Meaning.{Qubits, no_qubit, Row}
use Rattle.binary.proofs.Bits.{tally_few}
use Rattle.binary.proofs.Rows.{odd_none}
use Rattle.lists.specs.Cleared.{Cleared}
use Rattle.incidence.specs.Incidence.{number_on, rows_on}
use Rattle.machine.specs.Machine.{is_open}
use Rattle.machine.specs.Lists.{view, digit}
use Rattle.scans.specs.Rows.{RowLists, GoodRows}
use Rattle.scans.proofs.Scanning.{open_past, open_read}
use Rattle.kept.specs.Kept.{row_in, Finds}
use Rattle.filling.proofs.OpenBelow.{part_none, open_below, below_none, below_own, below_pass, below_put, below_all}
use Rattle.turns.specs.Turns.{Working}
use Rattle.trying.specs.Entries.{entry_in, entry_of, total, HasEntries, Tracks, rows_over, RowsOpened}
use Rattle.trying.specs.Start.{RowsCleared, AllOpened, MarkedOpened}
use Rattle.trying.proofs.RowNumbers.{same_entry}

----------------------------------------------------------------------
-- No qubit is open

module _ (count : ℕ) (old b d new : List ℕ) (few : count ≤ 512) (numbers : Cleared 8704 (8704 + count) old b) (sums : Cleared 9216 (9216 + count) b d)
    (parities : Cleared 9728 (9728 + count) d new) where
  number_0 : (i : ℕ) → i < count → get_or new (8704 + i) 0 ≡ 0
  number_0 i h = parities.outside (8704 + i) (inl (omega arith)) ∙ sums.outside (8704 + i) (inl (omega arith)) ∙ numbers.inside (8704 + i) (omega arith) (omega arith)

  sum_0 : (i : ℕ) → i < count → get_or new (9216 + i) 0 ≡ 0
  sum_0 i h = parities.outside (9216 + i) (inl (omega arith)) ∙ sums.inside (9216 + i) (omega arith) (omega arith)

  none_open_lem : (r : Row) → record { number = 0; sum = 0; parity = 0 } ≡ entry_of no_qubit no_qubit r
  none_open_lem r = sym (same_entry (entry_of no_qubit no_qubit r) (record { number = 0; sum = 0; parity = 0 }) (ap length (part_none r)) (ap (λ (l : List ℕ). total l % 65536) (part_none r)) (ap digit (odd_none r)))

  pub rows_cleared : RowsCleared count old new
  rows_cleared = record {
    long = parities.long ∙ sums.long ∙ numbers.long;
    entries = λ c e i h.
        same_entry (entry_in new i) (record { number = 0; sum = 0; parity = 0 }) (number_0 i (omega arith)) (sum_0 i (omega arith)) (parities.inside (9728 + i) (omega arith) (omega arith))
        ∙ none_open_lem (row_in c i);
  }

----------------------------------------------------------------------
-- Each qubit that is marked open is open

-- Those below q.
pub record Reached (n : ℕ) (c : RowLists) (marks work₀ : List ℕ) (q : ℕ) (work : List ℕ) (number : ℕ) : Type 0 where
  pub long : length work ≡ length work₀
  pub counted : number ≡ tally q (is_open (view n marks))
  pub entries : (flat : List ℕ) → let d = rows_over flat c in GoodRows n d → HasEntries no_qubit no_qubit d work₀
      → HasEntries (open_below (is_open (view n marks)) q) no_qubit d work

module _ (n : ℕ) (c : RowLists) (marks work₀ : List ℕ) where
  abbrev rows : List ℕ → RowLists
  rows flat = rows_over flat c

  abbrev o : Qubits
  o = is_open (view n marks)

  pub reached_none : Reached n c marks work₀ 0 work₀ 0
  reached_none = record { long = refl; counted = refl; entries = λ flat good t. subst (λ (s : Qubits). HasEntries s no_qubit (rows flat) work₀) (sym (below_none o)) t }

  module _ (q : ℕ) (work : List ℕ) (number : ℕ) (s : Reached n c marks work₀ q work number) where
    pub reached_few : number ≤ q
    reached_few = let e = s.counted in omega (arith, tally_few q o)

    -- Qubit q, which is open or not.
    module _ (h : q < n) where
      pub reached_shut : (get_or marks q 0 ≡ 4 → ⊥) → Reached n c marks work₀ (q + 1) work number
      reached_shut f =
          record {
            long = s.long;
            counted = s.counted ∙ rw (add-one q, e);
            entries = λ flat good t. subst (λ (x : Qubits). HasEntries x no_qubit (rows flat) work) (below_pass o q e) (s.entries flat good t);
          }
        where
          e : o q ≡ false
          e = sym (open_read n marks q h) ∙ ne_eqb (get_or marks q 0) 4 f

      pub reached_open : n ≤ 1024 → get_or marks q 0 ≡ 4 → number_on c.ends q ≤ 14 → (on : List ℕ) → on ≡ rows_on c.ends q → (work' : List ℕ) → RowsOpened q on c.first c.count c.lit work work'
          → Reached n c marks work₀ (q + 1) work' (number + 1)
      reached_open size f listed on same work' v =
          record {
            long = v.long ∙ s.long;
            counted = add-one number ∙ ap suc s.counted ∙ rw (add-one q, e);
            entries = λ flat good t.
                subst (λ (x : Qubits). HasEntries x no_qubit (rows flat) work') (below_put o q e)
                (v.opens flat c.ends listed same n size h good (open_below o q) no_qubit (below_own o q) (s.entries flat good t));
          }
        where
          e : o q ≡ true
          e = sym (open_read n marks q h) ∙ eq-eqb (get_or marks q 0) 4 f

-- Where all are passed. Marks and forms stay.
pub opened_all : (n : ℕ) (c : RowLists) (old new : Working) → new.marks ≡ old.marks → new.forms ≡ old.forms → (q number : ℕ) → Reached n c old.marks old.work q new.work number
    → q ≤ n → n ≤ q → MarkedOpened n c old new (Some number)
opened_all n c old new marks forms q number s h l =
    record {
      stays = λ i. record { marks = marks i; forms = forms i; work = new.work };
      long = s.long;
      all = λ k i. let same : number ≡ k = cc in subst (AllOpened n c old.marks old.work new.work) same all_open;
    }
  where
    end : q ≡ n
    end = omega arith

    all_open : AllOpened n c old.marks old.work new.work number
    all_open = record {
      number = s.counted ∙ ap (λ (k : ℕ). tally k (is_open (view n old.marks))) end;
      entries = λ flat good t.
          subst (λ (x : Qubits). HasEntries x no_qubit (rows_over flat c) new.work) (below_all (is_open (view n old.marks)) q (λ p m. sym (open_past n old.marks p (omega arith)))) (s.entries flat good t);
    }

----------------------------------------------------------------------
-- The dangling rows found

pub dangling_found : (o x : Qubits) (c : RowLists) (work work' : List ℕ) → 9216 ≤ length work → c.count ≤ 512 → Finds c.count work work' → HasEntries o x c work → Tracks o x c work'
dangling_found o x c work work' long few v entries =
    record {
      entries = λ i h.
          same_entry (entry_in work' i) (entry_in work i) (v.beyond (8704 + i) (omega arith)) (v.beyond (9216 + i) (omega arith)) (v.beyond (9728 + i) (omega arith)) ∙ entries i h;
      tallied = v.tallied long few;
    }
