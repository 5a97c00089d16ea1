-- A lost qubit, a lit row and an unread row: each adds a number to a set of the shot. Assumes nothing.
--   mark-refused, mark-taken  the ways through `add`
--   adds                      what `add` does is what the table says of the record, for every set
use mathlib.Core.Path.{◌≡◌, refl, sym, ap, ◌∙◌, subst}
use mathlib.Core.Bool.{Bool, true, false}
use mathlib.Core.Option.{none, some}
use mathlib.Core.List.{List}
use Prim.Native.Nat.{ℕ, ◌+◌, ◌≤◌}
use native.Mathlib.Omega.{arith}
use lib.Dec.{leb}
use lib.ListN.{length, set, length-set}
use borrow.Author.Tests.{leb-false}
use Rattle.binary.proofs.Bits.{bit}
use Rattle.records.specs.declared.Sizes.{Sizes}
use Rattle.records.specs.declared.State.{State}
use Rattle.records.specs.declared.Refusal.{Refusal}
use Rattle.records.specs.declared.Refusal.TheVariants.{Codeless, Range, Twice, Short}
use Rattle.records.specs.declared.Answer.TheVariants.{Taken}
use Rattle.records.specs.declared.Reply.{Reply}
use Rattle.records.specs.declared.Pauli.{Pauli}
use Rattle.records.specs.Records.{Set, lit, unread, add}
use Rattle.records.specs.History.{Code, sizes_of, Shot, rows, domain_of, size_of, already, joined, History, ready}
use Rattle.records.specs.Table.{refusal}
use Rattle.records.specs.Lists.{held, first_numbers, element, Holds, Represents}
use Rattle.records.specs.States.{without_code, opened_of, saying}
use Rattle.records.specs.Promise.{ShotLeft}
use Rattle.records.specs.Steps.{Answered, Does}
use Rattle.records.proofs.HeldStates.{no_code, with_code}
use Rattle.records.proofs.Answers.{answered, answered_refused, says_refused, says_nothing}
use Rattle.records.proofs.Range.{small}
use Rattle.readout.specs.declared.RowReading.{RowReading}
use Rattle.readout.specs.declared.RowReading.TheVariants.{Lit, Unread}
use Rattle.readout.specs.Readout.{Begun, marked?, row_element, row_set, mark_reply, Marked, Adds}
use Rattle.readout.proofs.Shots.{already_at, left_begun, left_joined, holds_opened}

abbrev pub taken_of : State → Reply
taken_of st = record { state = opened_of st; answer = Taken }

----------------------------------------------------------------------
-- The ways through `add`

module _ (short : Bool) (e count first k : ℕ) (st : State) (old : List ℕ) (r : Reply) where
  pub mark_refused : (n : Refusal) → saying n false st ≡ mark_reply short count first k st old → r ≡ saying n false st → Marked short e count first k st old old r
  mark_refused n i f =
      record {
        reply = f ∙ i;
        refused = λ m i. refl;
        taken = λ i. let z : ◌≡◌ {A = ℕ} 0 1 = cc in absurd (omega arith);
      }

  pub mark_taken : (mid new : List ℕ) → taken_of st ≡ mark_reply short count first k st old → r ≡ taken_of st → Begun st old mid → new ≡ set mid (first + k) e
      → Marked short e count first k st old new r
  mark_taken mid new i f b g =
      record {
        reply = f ∙ i;
        refused = λ m i. let z : ◌≡◌ {A = ℕ} 0 1 = cc in absurd (omega arith);
        taken = λ i. (mid, b, g);
      }

module _ (short : Bool) (count first k : ℕ) (st : State) (old : List ℕ) where
  pub reply_codeless : without_code st.phase ≡ true → saying Codeless false st ≡ mark_reply short count first k st old
  unfolding mark_reply
  reply_codeless e = rw e

  module _ (e : without_code st.phase ≡ false) where
    pub reply_range : leb count k ≡ true → saying Range false st ≡ mark_reply short count first k st old
    unfolding mark_reply
    reply_range h = rw (e, h)

    module _ (h : leb count k ≡ false) where
      pub reply_short : short ≡ true → saying Short false st ≡ mark_reply short count first k st old
      unfolding mark_reply
      reply_short i = rw (e, h, i)

      module _ (i : short ≡ false) where
        pub reply_twice : marked? st.stale old (first + k) ≡ true → saying Twice false st ≡ mark_reply short count first k st old
        unfolding mark_reply
        reply_twice t = rw (e, h, i, t)

        pub reply_taken : marked? st.stale old (first + k) ≡ false → taken_of st ≡ mark_reply short count first k st old
        unfolding mark_reply
        reply_taken t = rw (e, h, i, t)

----------------------------------------------------------------------
-- The record

module _ (u : Set) (k : ℕ) (short : Bool) (st : State) (old new : List ℕ) (r : Reply)
    (m : Marked short (element u) (size_of (domain_of u) st.sizes) (first_numbers (domain_of u) st.sizes) k st old new r) where
  abbrev count : ℕ
  count = size_of (domain_of u) st.sizes

  abbrev at : ℕ
  at = first_numbers (domain_of u) st.sizes + k

  -- Refused, by its number in the table.
  refuse : (n : Refusal) → r ≡ saying n false st
      → ((six : ℕ → Bool) (flat ends : List ℕ) (a : History) → Represents a st (held flat ends old) → refusal short six (add u k) a ≡ some n)
      → Adds short u k st old new r
  unfolding Does
  refuse n e f =
      let same : new ≡ old = m.refused n (ap (λ (x : Reply). x.answer) e) in
      record {
        long = ap length same;
        refused = m.refused;
        says = says_refused (add u k) st r n e;
        does = λ six flat ends long a h.
            subst (λ (l : List ℕ). Answered short six (add u k) a (held flat ends old) (held flat ends l) r) (sym same)
            (answered_refused short six (add u k) a (held flat ends old) n st r (f six flat ends a h) h e);
      }

  codeless : without_code st.phase ≡ true → Adds short u k st old new r
  unfolding refusal
  codeless e =
      refuse Codeless (m.reply ∙ sym (reply_codeless short count (first_numbers (domain_of u) st.sizes) k st old e))
      (λ six flat ends a h. rw (no_code st (held flat ends old) a h e))

  module _ (e : without_code st.phase ≡ false) where
    -- Of a complete code.
    refuse_code : (n : Refusal) → r ≡ saying n false st
        → ((six : ℕ → Bool) (flat ends : List ℕ) (c : Code) (s : Shot) → Holds c s st (held flat ends old) → refusal short six (add u k) (ready c s) ≡ some n)
        → Adds short u k st old new r
    refuse_code n f g =
        refuse n f (λ six flat ends. with_code st (held flat ends old) (λ a. refusal short six (add u k) a ≡ some n) e (g six flat ends))

    range : leb count k ≡ true → Adds short u k st old new r
    unfolding refusal
    range h =
        refuse_code Range (m.reply ∙ sym (reply_range short count (first_numbers (domain_of u) st.sizes) k st old e h))
        (λ six flat ends c s v. let h' : leb (size_of (domain_of u) (sizes_of c)) k ≡ true = rw v.sizes at h in rw h')

    module _ (h : leb count k ≡ false) where
      few : (c : Code) (s : Shot) (flat ends : List ℕ) → Holds c s st (held flat ends old) → leb (size_of (domain_of u) (sizes_of c)) k ≡ false
      few c s flat ends v = rw v.sizes at h

      is_short : short ≡ true → Adds short u k st old new r
      unfolding refusal
      is_short i =
          refuse_code Short (m.reply ∙ sym (reply_short short count (first_numbers (domain_of u) st.sizes) k st old e h i))
          (λ six flat ends c s v. rw (few c s flat ends v, i))

      -- The test of the list is that of the set.
      found : (b : Bool) → marked? st.stale old at ≡ b → (flat ends : List ℕ) (c : Code) (s : Shot) → Holds c s st (held flat ends old) → already (domain_of u) s k ≡ b
      found b t flat ends c s v =
          already_at c s old st.stale v.shot (domain_of u) k (leb-false (size_of (domain_of u) (sizes_of c)) k (few c s flat ends v))
          ∙ ap (λ (z : Sizes). marked? st.stale old (first_numbers (domain_of u) z + k)) (sym v.sizes) ∙ t

      module _ (i : short ≡ false) where
        twice : marked? st.stale old at ≡ true → Adds short u k st old new r
        unfolding refusal
        twice t =
            refuse_code Twice (m.reply ∙ sym (reply_twice short count (first_numbers (domain_of u) st.sizes) k st old e h i t))
            (λ six flat ends c s v. rw (few c s flat ends v, i, found true t flat ends c s v))

        carried : marked? st.stale old at ≡ false → Adds short u k st old new r
        unfolding Does refusal
        carried t =
            let is : r ≡ taken_of st = m.reply ∙ sym (reply_taken short count (first_numbers (domain_of u) st.sizes) k st old e h i t) in
            let x = m.taken (ap (λ (y : Reply). y.answer) is) in
            let mid = x.0 in
            let b = x.1 in
            let f = x.2 in
            record {
              long = ap length f ∙ length-set mid at (element u) ∙ b.long;
              refused = m.refused;
              says = says_nothing (add u k) st r refl (λ n j. let z : ◌≡◌ {A = ℕ} 0 1 = cc in omega arith) (ap (λ (y : Reply). y.state.reports) is);
              does = λ six flat ends long. with_code st (held flat ends old) (λ a. Answered short six (add u k) a (held flat ends old) (held flat ends new) r) e
                  (λ c s v.
                  let g : new ≡ set mid (first_numbers (domain_of u) (sizes_of c) + k) (element u) = f ∙ ap (λ (z : Sizes). set mid (first_numbers (domain_of u) z + k) (element u)) v.sizes in
                  let n : 2048 ≤ length mid = rw b.long (long i) in
                  let w = left_joined c (small c s st (held flat ends old) v) s old flat ends mid (left_begun c s st flat ends old mid v b) n u k
                  (leb-false (size_of (domain_of u) (sizes_of c)) k (few c s flat ends v)) (found false t flat ends c s v) in
                  let w' = subst (λ (x : List ℕ). ShotLeft c (joined u k s) (held flat ends old) (held flat ends x)) (sym g) w in
                  answered short six (add u k) (ready c s) (held flat ends old) (held flat ends new) r none
                  (rw (few c s flat ends v, i, found false t flat ends c s v)) (ap (λ (y : Reply). y.answer) is)
                  (subst (λ (x : State). Holds c (joined u k s) x (held flat ends new)) (sym (ap (λ (y : Reply). y.state) is))
                  (holds_opened c s (joined u k s) st flat ends old new v refl w'.held)) w');
            }

  pub adds : Adds short u k st old new r
  adds =
      bit (without_code st.phase) codeless
      (λ e. bit (leb count k) (range e)
      (λ h. bit short (is_short e h)
      (λ i. bit (marked? st.stale old at) (twice e h i) (carried e h i))))

----------------------------------------------------------------------
-- A row of a kind

pub notes : (m : RowReading) (p : Pauli) (k : ℕ) (short : Bool) (st : State) (old new : List ℕ) (r : Reply) (e count first : ℕ) → e ≡ row_element m
    → count ≡ size_of (rows p) st.sizes → first ≡ first_numbers (rows p) st.sizes → Marked short e count first k st old new r
    → Adds short (row_set m p) k st old new r
notes m p k short st old new r e count first i j f v =
    of m (subst (λ (n : ℕ). Marked short n (size_of (rows p) st.sizes) (first_numbers (rows p) st.sizes) k st old new r) i
    (subst (λ (n : ℕ). Marked short e n (first_numbers (rows p) st.sizes) k st old new r) j
    (subst (λ (n : ℕ). Marked short e count n k st old new r) f v)))
  where
    of : (m : RowReading) → Marked short (row_element m) (size_of (rows p) st.sizes) (first_numbers (rows p) st.sizes) k st old new r → Adds short (row_set m p) k st old new r
    of Unread v = adds (unread p) k short st old new r v
    of Lit v = adds (lit p) k short st old new r v
