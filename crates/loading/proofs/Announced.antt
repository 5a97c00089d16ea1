-- What each way through `take_sizes` leaves. Assumes nothing.
use mathlib.Core.Path.{◌≡◌, refl, sym, ap, ◌∙◌}
use mathlib.Core.Bool.{Bool, true, false}
use mathlib.Core.Option.{none, some}
use Prim.Native.Nat.{ℕ}
use Rattle.records.specs.declared.Sizes.{Sizes}
use Rattle.records.specs.declared.State.{State}
use Rattle.records.specs.declared.Refusal.{Refusal}
use Rattle.records.specs.declared.Refusal.TheVariants.{Size, Short}
use Rattle.records.specs.declared.Reply.{Reply}
use Rattle.records.specs.Records.{size}
use Rattle.records.specs.History.{History}
use Rattle.records.specs.Table.{in_range, refusal}
use Rattle.records.specs.Steps.{Does}
use Rattle.loading.specs.Loading.{progress_of, SizesTaken}
use Rattle.records.specs.States.{saying}
use Rattle.records.proofs.Answers.{answered, answered_refused, says_refused, says_nothing}
use Rattle.loading.proofs.Grown.{not_refused, progress_reports, progress_empties, grown_none, grown_answer, grown_holds}

module _ (st : State) (n x z : ℕ) (short : Bool) (r : Reply) where
  abbrev s₀ : Sizes
  s₀ = record { n = n; x = x; z = z }

  -- Refused, by its number in the table.
  refuse : (m : Refusal) → r ≡ saying m false st → ((six : ℕ → Bool) (a : History) → refusal short six (size n x z) a ≡ some m) → SizesTaken n x z st short r
  unfolding Does
  refuse m is e =
      record {
        says = says_refused (size n x z) st r m is;
        does = λ l six a h. answered_refused short six (size n x z) a l m st r (e six a) h is;
      }

  pub size_refused : in_range n x z ≡ false → r ≡ saying Size false st → SizesTaken n x z st short r
  unfolding refusal
  size_refused e is = refuse Size is (λ six a. rw e)

  pub size_short : in_range n x z ≡ true → short ≡ true → r ≡ saying Short false st → SizesTaken n x z st short r
  unfolding refusal
  size_short e s is = refuse Short is (λ six a. rw (e, s))

  pub size_taken : in_range n x z ≡ true → short ≡ false → r ≡ progress_of (record { n = n; x = x; z = z }) 0 false 0 → SizesTaken n x z st short r
  unfolding Does refusal
  size_taken e s p =
      record {
        says = says_nothing (size n x z) st r refl (λ m i. not_refused s₀ 0 false 0 m (sym (ap (λ (y : Reply). y.answer) p) ∙ i))
            (rw p (progress_reports s₀ 0 false 0 ∙ sym (progress_empties s₀ 0 false 0 n x z st.reports)));
        does = λ l six a h.
            let begun = grown_none s₀ l e in
            answered short six (size n x z) a l l r none (rw (e, s)) (grown_answer _ _ _ _ _ l begun r 0 (λ t. refl) p) (grown_holds _ _ _ _ _ l begun r 0 (λ t. refl) p) refl;
      }
