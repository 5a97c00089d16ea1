-- What the search leaves: the fixed qubits are marked, and the columns are noted in the order of the route. Assumes nothing.
use mathlib.Core.Path.{◌≡◌, refl, sym, ap, ◌∙◌, fun_ext}
use mathlib.Core.Bool.{Bool, true, not, cond, ◌&&◌}
use mathlib.Core.Logic.{◌⊎◌, inl, inr, ⊎_elim}
use mathlib.Core.List.{List, [], ◌∷◌}
use Prim.Native.Nat.{ℕ, zero, suc, ◌+◌, ◌*◌, ◌/◌, ◌≤◌, ◌<◌}
use native.Mathlib.Nat.{not-suc-le-zero, le_of_suc-le-suc}
use native.Mathlib.Omega.{arith}
use borrow.Author.Tests.{not-true, leb-true, le-leb, lt-ltb, le-ltb}
use lib.Dec.{leb, ltb}
use lib.ListN.{length, get_or}
use Rattle.binary.specs.Meaning.{Qubits, Row, Below, All, has}
use Rattle.binary.specs.Words.{listed}
use Rattle.packing.specs.Packed.{words_for, Packed}
use Rattle.columns.specs.Columns.{untaken}
use Rattle.numbering.specs.Numbering.{startable?, Started, Starts}
use Rattle.std.specs.Prelude.{None, Some}
use Rattle.search.specs.Route.{first, some?, clearing, steps, ascend, begin, known, route, Same}
use Rattle.search.specs.Marked.{enough, Searched, Marked}
use Rattle.search.specs.Search.{ColumnsIn, row_of, stand_of, Sound, Knowns, Losts}
use Rattle.binary.proofs.Bits.{bit, never, and_in, and_out}
use Rattle.binary.proofs.Rows.{all_out, has_below}
use Rattle.binary.proofs.WordBits.{order}
use Rattle.packing.proofs.Rows.{few_words}
use Rattle.numbering.proofs.Counting.{row_ends}
use Rattle.numbering.proofs.Numbered.{cell_same}
use Rattle.search.proofs.Stands.{columns_same, row_in_lem, row_none, row_past, stand_eq, ascend_same}
use Rattle.search.proofs.Route.{row_at_lem, fixed_cleared}

----------------------------------------------------------------------
-- Long enough lists

module _ (n rows w : ℕ) (lost work marks : List ℕ) (wide : w ≡ words_for n) where
  pub enough_out : enough n rows lost work marks ≡ true → ColumnsIn n w rows work × (n ≤ length lost) × (n ≤ length marks)
  unfolding enough
  enough_out t =
      let a = and_out _ (leb n (length marks)) t in
      let b = and_out _ (leb n (length lost)) a.0 in
      let d = and_out _ (leb 10240 (length work)) b.0 in
      let e = and_out (leb n 1024) (leb rows 512) d.0 in
      let h = leb-true n 1024 e.0 in
      let k = leb-true rows 512 e.1 in
      let g : w ≤ 16 = omega arith in
      ((omega arith, h, g, k, few_words rows w k g, leb-true 10240 (length work) d.1), leb-true n (length lost) b.1, leb-true n (length marks) a.1)

  pub started : (work' : List ℕ) → enough n rows lost work marks ≡ true → Starts w rows n lost work work' → Started w rows n lost work work'
  unfolding startable?
  started work' t s =
      let x = enough_out t in
      s.started (and_in (and_in (and_in (le-leb w 16 x.0.2) (le-leb rows 512 x.0.3)) (le-leb 10240 (length work) x.0.5)) (le-leb n (length lost) x.1))

----------------------------------------------------------------------
-- The start

-- There is no row past the last.
past_end : (rs : List Row) (i : ℕ) → length rs ≤ i → get_or rs i [] ≡ []
past_end [] i h = refl
past_end (r ∷ rs) zero h = absurd (not-suc-le-zero h)
past_end (r ∷ rs) (suc i) h = past_end rs i (le_of_suc-le-suc h)

module _ (n rows w : ℕ) (lost work work' : List ℕ) (fits : ColumnsIn n w rows work) (s : Started w rows n lost work work') where
  pub sound_start : Sound n w rows 0 work'
  sound_start = (
    λ c h u. ⊎_elim (λ l. l) (λ (l : n ≤ c). never (sym (s.known c h) ∙ u) (rw (le-ltb c n l))) (order c n),
    s.numbered,
  )

  module _ (rs : List Row) (e : length rs ≡ rows) (packed : Packed n w rs work) (rows_below : Below n rs) where
    pub begin_stands : stand_of n w rows 0 work' ≡ begin n rs (listed n lost)
    begin_stands = stand_eq (stand_of n w rows 0 work') (begin n rs (listed n lost)) (fun_ext open_at) (refl, fun_ext (λ i. fun_ext (λ q. row i q (order i rows) (order q n))))
      where
        open_at : (q : ℕ) → (ltb q n && untaken work' q) ≡ (ltb q n && not (listed n lost q))
        open_at q = ⊎_elim (λ (l : q < n). rw (lt-ltb q n l) (s.known q (omega (arith, fits.0)) ∙ rw (lt-ltb q n l))) (λ (l : n ≤ q). rw (le-ltb q n l)) (order q n)

        row : (i q : ℕ) → (i < rows) ⊎ (rows ≤ i) → (q < n) ⊎ (n ≤ q) → row_of n w rows 0 work' i q ≡ has (get_or rs i []) q
        row i q (inl a) (inl b) =
            row_in_lem n w rows 0 work' i q (omega arith) a b
            ∙ cell_same w i q work work' (omega (arith, fits.0)) (s.kept (i * w + q / 64) (omega (arith, fits.0, row_ends w i fits.2 (omega (arith, fits.3)))))
            ∙ packed.cells i q (omega arith) b
        row i q (inl a) (inr b) =
            row_past n w rows 0 work' i q b
            ∙ sym (bit (has (get_or rs i []) q)
            (λ t. let k = has_below n (get_or rs i []) (all_out (All (λ p. p < n)) rs rows_below (get_or rs i []) (row_at_lem rs i (omega arith))) q t in absurd (omega arith)) (λ t. t))
        row i q (inr a) b = row_none n w rows 0 work' i q a ∙ sym (ap (λ (r : Row). has r q) (past_end rs i (omega arith)))

----------------------------------------------------------------------
-- The end

pub not_marked : (n rows : ℕ) (lost work marks : List ℕ) (b : Bool) → b ≡ enough n rows lost work marks → not b ≡ true
    → Marked n rows lost work marks work marks None
not_marked n rows lost work marks b e f =
    record {
      work_size = refl;
      size = refl;
      rest = λ k h. refl;
      few = λ c f. let z : ◌≡◌ {A = ℕ} 0 1 = cc in absurd (omega arith);
      made = λ t. never (e ∙ t) (not-true b f);
      refused = λ _. (refl, refl, refl);
    }

module _ (n rows w : ℕ) (lost work marks m₁ m₂ m₃ marks' : List ℕ) (top all : ℕ) (wide : w ≡ words_for n) (t : enough n rows lost work marks ≡ true)
    (a : Started w rows n lost work m₁) (b : Knowns n w rows m₁ top m₂) (d : Losts n w rows lost top m₂ marks n all m₃ marks') where
  searched : (rs : List Row) → length rs ≡ rows → Packed n w rs work → Below n rs → Searched n rs lost marks m₃ marks' top all
  unfolding route
  searched rs e packed rows_below =
      record {
        marked = λ q h. d.marked q h ∙ ap (λ (x : Bool). cond x 1 (get_or marks q 0))
            (ap (λ (x : ℕ → Qubits). listed n lost q && some? (first rows (λ i. x i q))) (then q).1
            ∙ ap (λ (x : ℕ). listed n lost q && some? (clearing x q (ascend x (listed n lost) q (known n rs (listed n lost))))) (sym e)
            ∙ sym (fixed_cleared n rs rows_below (listed n lost) q));
        first = columns_same top m₂ m₃ d.order ∙ stands.0;
        taken = d.stands.0 ∙ (then n).0 ∙ ap (λ (x : ℕ). (ascend x (listed n lost) n (known n rs (listed n lost))).columns) (sym e);
      }
    where
      begun : steps n rows n (stand_of n w rows 0 m₁) ≡ known n rs (listed n lost)
      begun =
          ap (steps n rows n) (begin_stands n rows w lost work m₁ (enough_out n rows w lost work marks wide t).0 a rs e packed rows_below)
          ∙ ap (λ (x : ℕ). steps n x n (begin n rs (listed n lost))) (sym e)

      stands : Same (stand_of n w rows top m₂) (known n rs (listed n lost))
      stands = rw (← begun) b.stands

      then : (q : ℕ) → Same (ascend rows (listed n lost) q (stand_of n w rows top m₂)) (ascend rows (listed n lost) q (known n rs (listed n lost)))
      then q = ascend_same rows (listed n lost) q (stand_of n w rows top m₂) (known n rs (listed n lost)) stands

  pub all_marked : Marked n rows lost work marks m₃ marks' (Some (record { known = top; all = all }))
  all_marked =
      record {
        work_size = d.long ∙ b.long ∙ a.long;
        size = d.size;
        rest = d.kept;
        few = λ c f. let z : all ≡ c.all = cc in omega (arith, d.within);
        made = λ _. (top, all, refl, rw (← wide) searched);
        refused = λ f. never t f;
      }
