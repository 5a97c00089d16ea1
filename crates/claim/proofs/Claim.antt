-- Demands 1 to 3 hold of every list of calls from a fresh start. Assumes nothing.
use mathlib.Core.Path.{◌≡◌, refl, sym, ap, ◌∙◌, subst}
use mathlib.Core.Bool.{Bool, true, false, ◌||◌}
use mathlib.Core.Option.{Option, none, some}
use mathlib.Core.List.{List, [], ◌∷◌, ◌++◌}
use Prim.Native.Nat.{ℕ, ◌≤◌, ◌<◌}
use lib.Dec.{T, ltb, ltb→lt}
use lib.ListN.{length}
use Rattle.binary.specs.Meaning.{Qubits}
use Rattle.binary.proofs.Bits.{never, and_out, or_false}
use Rattle.binary.proofs.Tests.{commute_test}
use Rattle.code.proofs.Order.{rows_below}
use Rattle.commuting.proofs.Sharing.{commute_symmetric}
use Rattle.machine.specs.declared.HalfReport.{HalfReport}
use Rattle.machine.specs.Words.{finished?}
use Rattle.machine.specs.Machine.{Half, is_open}
use Rattle.machine.specs.Report.{Shown, shown, outcome}
use Rattle.machine.specs.Lists.{HalfLists, Shows, SameLengths, seen}
use Rattle.machine.specs.Unread.{before, AllReadLaw}
use Rattle.machine.specs.Demands.{Obeys, VerdictLaw, CountedLaw, EmptiedLaw, FillingsLaw, ClassesLaw, BudgetsLaw, ReachLaw}
use Rattle.machine.specs.OneWord.{OneWord, OneWordLaw}
use Rattle.candidates_meaning.specs.Candidates.{Candidates, CandidatesLaw}
use Rattle.machine.proofs.FormWords.{one_word}
use Rattle.machine.proofs.Finished.{over_shut_all}
use Rattle.candidates_meaning.proofs.Candidates.{candidates}
use Rattle.machine.proofs.Demands.{verdict, counted, emptied, fillings, classes, budgets, reach}
use Rattle.machine.proofs.Unread.{all_read}
use Rattle.machine.proofs.Seen.{seen_is}
use Rattle.records.specs.declared.Report.{Report}
use Rattle.records.specs.declared.State.{State}
use Rattle.records.specs.declared.Refusal.{Refusal}
use Rattle.records.specs.declared.Refusal.TheVariants.{Codeless, Spoiled, Short}
use Rattle.records.specs.declared.Answer.{Answer}
use Rattle.records.specs.declared.Answer.TheVariants.{Taken, Decoded}
use Rattle.records.specs.declared.Pauli.{Pauli}
use Rattle.records.specs.declared.Pauli.TheVariants.{X, Z}
use Rattle.records.specs.Records.{lost, Record, report, encodes, record_of}
use Rattle.records.specs.History.{Code, Shot, History, empty, ready, half}
use Rattle.records.specs.Lowest.{lowest, Numbered}
use Rattle.records.specs.Table.{refusal_number, tests, refusal, NumberedLaw, afterwards}
use Rattle.records.specs.Lists.{Lists, Six, Lent, short_lists, short_half, short_six, marks, ShotIn, Holds, Represents}
use Rattle.records.specs.Promise.{refusal_at, answer_of, Left, Written, Unworked, KeptLengths, WindowLeft}
use Rattle.records.proofs.Range.{LongHalf, long_half}
use Rattle.records.proofs.Numbers.{lowest_numbered}
use Rattle.claim.specs.Calls.{Passed, passed_of, Step, lent, Call, step, look, Keeps, state_left, lists_left, Run, call, makes, past, Place, at, begins, state_after}
use Rattle.claim.specs.Window.{reports_by, reports_of, report_for, KeptIn}
use Rattle.claim.proofs.Window.{kept_none, kept_after, read_fresh}
use Rattle.claim.proofs.Candidates.{classes_shown}
use Rattle.claim.specs.Candidates.{ClassesShown}
use Rattle.claim.specs.Claim.{Told, lists_for, shows, Reported, HalfRight, SameHalf, Claim}

----------------------------------------------------------------------
-- Lengths

-- Lists as long as others.
pub record AsLong (l l' : Passed) : Type 0 where
  pub flat : length l.lists.flat ≡ length l'.lists.flat
  pub ends : length l.lists.ends ≡ length l'.lists.ends
  pub shot : length l.lists.shot ≡ length l'.lists.shot
  pub window : length l.window ≡ length l'.window

short_same : (l l' : Passed) → AsLong l l' → (work : ℕ) → short_lists l.lists (length l.window) work ≡ short_lists l'.lists (length l'.window) work
unfolding short_lists
short_same l l' e work = rw (e.flat, e.ends, e.shot, e.window)

-- A refusal is told from lengths alone.
refusal_same : (l l' : Passed) → AsLong l l' → (k : Step) (a : History) → refusal_at (record_of k.bytes) a (lent l k) ≡ refusal_at (record_of k.bytes) a (lent l' k)
refusal_same l l' e k a = rw (short_same l l' e (length k.work))

----------------------------------------------------------------------
-- The call in its run

-- A call keeps the lists' lengths.
long_after : (l₀ l : Passed) (st : State) (k : Call) → AsLong l₀ l → Keeps st l k → AsLong l₀ (lists_left l k)
long_after l₀ l st (step k) e p = record {
  flat = e.flat ∙ sym p.lengths.flat;
  ends = e.ends ∙ sym p.lengths.ends;
  shot = e.shot ∙ sym p.lengths.shot;
  window = e.window ∙ sym p.lengths.window;
}
long_after l₀ l st (look a) e p = e

-- State and lists hold the code and shot that the call makes.
held_after : (l₀ l : Passed) (st : State) (a : History) (k : Call) → AsLong l₀ l → Represents a st l.lists → Keeps st l k
    → Represents (makes l₀ a k) (state_left st k) (lists_left l k).lists
held_after l₀ l st a (step k) e v p =
    subst (λ (r : Option Refusal). Represents (afterwards r (record_of k.bytes) a) k.reply.state k.left.lists)
    (sym (refusal_same l₀ l e k a)) (p.carried a v).next
held_after l₀ l st a (look w) e v p = v

-- The number of reports and the window hold those that the call makes.
kept_after_call : (l : Passed) (st : State) (rs : List Report) (k : Call) → KeptIn rs st.reports l.window → Keeps st l k
    → KeptIn (reports_by rs k) (state_left st k).reports (lists_left l k).window
kept_after_call l st rs (step k) v p =
    subst (λ (m : ℕ). KeptIn (reports_by rs (step k)) m k.left.window) (sym p.says.reports)
    (kept_after (record_of k.bytes) k.reply.answer rs st.reports l.window k.left.window v p.window)
kept_after_call l st rs (look a) v p = v

-- What the calls before leave: a state and lists that hold the code and shot of `past` and the reports told from the calls, and lists as long as at the
-- start.
pub record Reached (l : Passed) (a : History) (rs : List Report) (k : Call) (st : State) (l' : Passed) : Type 0 where
  pub long : AsLong l l'
  pub held : Represents a st l'.lists
  pub window : KeptIn rs st.reports l'.window
  pub kept : Keeps st l' k

reached : (l₀ l : Passed) (st : State) (a : History) (rs : List Report) (before after : List Call) (k : Call) → AsLong l₀ l → Represents a st l.lists
    → KeptIn rs st.reports l.window → Run st l (before ++ (k ∷ after))
    → Reached l₀ (past l₀ a before) (reports_of rs before) k (state_after st before) (begins l before)
unfolding past reports_of
reached l₀ l st a rs [] after k e v w (call p run) = record { long = e; held = v; window = w; kept = p }
reached l₀ l st a rs (j ∷ before) after k e v w (call p run) =
    reached l₀ (lists_left l j) (state_left st j) (makes l₀ a j) (reports_by rs j) before after k (long_after l₀ l st j e p) (held_after l₀ l st a j e v p)
    (kept_after_call l st rs j w p) run

placed : (k : Call) (p : Place k)
    → Reached p.lists (at p) (reports_of [] p.before) k (state_after p.state p.before) (begins p.lists p.before)
placed k p =
    reached p.lists p.lists p.state empty [] p.before p.after k (record { flat = refl; ends = refl; shot = refl; window = refl }) p.fresh.0
    (rw p.fresh.1 (kept_none p.lists.window)) p.run

numbered : (short : Bool) (six : ℕ → Bool) (r : Record) (a : History) → Numbered refusal_number (tests short six r a) (refusal short six r a)
unfolding NumberedLaw
numbered = lowest_numbered

told : (k : Step) (p : Place (step k)) → Told (at p) p.lists (begins p.lists p.before) k
told k p =
    let z = placed (step k) p in
    let c = z.kept.carried (at p) z.held in
    let e = sym (refusal_same p.lists (begins p.lists p.before) z.long k (at p)) in
    record {
      number = numbered (short_lists p.lists.lists (length p.lists.window) (length k.work)) (short_six k.six) (record_of k.bytes) (at p);
      answer = subst (λ (r : Option Refusal). k.reply.answer ≡ answer_of r (record_of k.bytes) (at p)) e c.answer;
      lists = subst (λ (r : Option Refusal). Left r (record_of k.bytes) (at p) (begins p.lists p.before).lists k.left.lists) e c.lists;
      six = subst (λ (r : Option Refusal). Written r (record_of k.bytes) (at p) k.six k.left.six) e c.six;
      work = subst (λ (r : Option Refusal). Unworked r (record_of k.bytes) k.work k.left.work) e c.work;
    }

----------------------------------------------------------------------
-- The halves that a decode reports

lost_below : (stale : Bool) (c : Code) (s : Shot) (shot : List ℕ) → ShotIn stale c s shot → (q : ℕ) → s.sets lost q ≡ true → q < c.n
lost_below true c s shot v q t = never t (ap (λ (f : Qubits). f q) (v lost))
lost_below false c s shot v q t =
    let e : marks 1 c.n 0 shot q ≡ true = sym (ap (λ (f : Qubits). f q) (v.sets lost)) ∙ t in
    ltb→lt q c.n (subst T (sym (and_out (ltb q c.n) _ e).0) tt)

-- The halves of a code and shot that state and lists hold obey document 01.
pub obeys : (p : Pauli) (c : Code) (s : Shot) (st : State) (l : Lists) → Holds c s st l → Obeys (half p c s)
obeys X c s st l v =
    record {
      rows_below = rows_below c.n c.zs v.good_zs.ascending;
      others_below = rows_below c.n c.xs v.good_xs.ascending;
      lost_below = lost_below st.stale c s l.shot v.shot;
      commute = (commute_test c.zs c.xs).1 v.commute;
    }
obeys Z c s st l v =
    record {
      rows_below = rows_below c.n c.xs v.good_xs.ascending;
      others_below = rows_below c.n c.zs v.good_zs.ascending;
      lost_below = lost_below st.stale c s l.shot v.shot;
      commute = (commute_symmetric c.n c.xs c.zs v.good_xs.ascending v.good_zs.ascending).0 ((commute_test c.zs c.xs).1 v.commute);
    }

-- Of a decode that is reported: its report and its lists are those of the two outcomes.
record Outcomes (c : Code) (s : Shot) (budget limit : ℕ) (r : Report) (old new : Six) : Type 0 where
  reports : (p : Pauli) → report_for p r ≡ (outcome (half p c s) budget limit).report
  lists : (p : Pauli) → Shows c.n (outcome (half p c s) budget limit) (lists_for p old) (lists_for p new)

outcomes : (c : Code) (s : Shot) (budget limit : ℕ) (r : Report) (old new : Six) (x : Answer) (q : Option Refusal) (w : Record) (a : History)
    → a ≡ ready c s → w ≡ report budget limit → x ≡ Decoded r → x ≡ answer_of q w a → Written q w a old new → Outcomes c s budget limit r old new
outcomes c s budget limit r old new x (some n) w a i j d e f = let z : ◌≡◌ {A = Bool} true false = cc in never refl z
outcomes c s budget limit r old new x none w a i j d e f =
    let g : x ≡ answer_of none (report budget limit) (ready c s) = subst (λ (b : History). x ≡ answer_of none (report budget limit) b) i (subst (λ (u : Record). x ≡ answer_of none u a) j e) in
    let h : Written none (report budget limit) (ready c s) old new = subst (λ (b : History). Written none (report budget limit) b old new) i (subst (λ (u : Record). Written none u a old new) j f) in
    let same : r ≡ record { x = (outcome (half X c s) budget limit).report; z = (outcome (half Z c s) budget limit).report } = cc in
    record { reports = λ p. of p same; lists = λ p. in_list p h }
  where
    of : (p : Pauli) → r ≡ record { x = (outcome (half X c s) budget limit).report; z = (outcome (half Z c s) budget limit).report }
        → report_for p r ≡ (outcome (half p c s) budget limit).report
    of X t = ap (λ (u : Report). u.x) t
    of Z t = ap (λ (u : Report). u.z) t

    in_list : (p : Pauli) → Written none (report budget limit) (ready c s) old new → Shows c.n (outcome (half p c s) budget limit) (lists_for p old) (lists_for p new)
    in_list X t = t.0
    in_list Z t = t.1

-- What a reported decode shows of a half is its outcome.
record ShownAs (k : Step) (c : Code) (s : Shot) (budget limit : ℕ) (r : Report) : Type 0 where
  obeyed : (p : Pauli) → Obeys (half p c s)
  same : (p : Pauli) → shows p c r k ≡ outcome (half p c s) budget limit
  listed : (p : Pauli) → Shows c.n (outcome (half p c s) budget limit) (lists_for p k.six) (lists_for p k.left.six)

shown_as : (k : Step) (p : Place (step k)) (c : Code) (s : Shot) (budget limit : ℕ) (r : Report) → Reported (at p) k c s budget limit r
    → ShownAs k c s budget limit r
shown_as k p c s budget limit r v =
    let z = placed (step k) p in
    let t = told k p in
    let st = state_after p.state p.before in
    let held : Holds c s st (begins p.lists p.before).lists = subst (λ (a : History). Represents a st (begins p.lists p.before).lists) v.at z.held in
    let o = outcomes c s budget limit r k.six k.left.six k.reply.answer (refusal_at (record_of k.bytes) (at p) (lent p.lists k)) (record_of k.bytes) (at p) v.at v.decode v.answer t.answer t.six in
    let good : (b : Pauli) → Obeys (half b c s) = λ b. obeys b c s st (begins p.lists p.before).lists held in
    record {
      obeyed = good;
      same = λ b. ap (λ (u : HalfReport). seen c.n u (lists_for b k.left.six)) (o.reports b)
          ∙ seen_is (half b c s) (good b) budget limit (lists_for b k.six) (lists_for b k.left.six) (o.lists b);
      listed = o.lists;
    }

----------------------------------------------------------------------
-- The lists of a decode that is reported

reported_none : (q : Option Refusal) (w : Record) (a : History) (x : Answer) (r : Report) → x ≡ Decoded r → x ≡ answer_of q w a → q ≡ none
reported_none none w a x r d e = refl
reported_none (some n) w a x r d e = let z : ◌≡◌ {A = Bool} true false = cc in never refl z

-- A decode that is not refused meets six lists that are long enough.
six_long : (short : Bool) (six : ℕ → Bool) (budget limit : ℕ) (c : Code) (s : Shot) → refusal short six (report budget limit) (ready c s) ≡ none → six c.n ≡ false
unfolding refusal
six_long short six budget limit c s = by s.spoiled short (six c.n)
  where
    by : (spoiled short few : Bool) → lowest ((Codeless, false) ∷ (Spoiled, spoiled) ∷ (Short, short || few) ∷ []) ≡ none → few ≡ false
    by true short few e = let z : ◌≡◌ {A = Bool} true false = cc in never refl z
    by false true few e = let z : ◌≡◌ {A = Bool} true false = cc in never refl z
    by false false true e = let z : ◌≡◌ {A = Bool} true false = cc in never refl z
    by false false false e = refl

long_as : (n : ℕ) (old new : HalfLists) → SameLengths old new → LongHalf n old → LongHalf n new
long_as n old new e l =
    record { marks = rw e.marks l.marks; forms = rw e.forms l.forms; correction = rw e.correction l.correction }

left_long : (k : Step) (p : Place (step k)) (c : Code) (s : Shot) (budget limit : ℕ) (r : Report) → Reported (at p) k c s budget limit r
    → (b : Pauli) → LongHalf c.n (lists_for b k.left.six)
unfolding short_six
left_long k p c s budget limit r v b =
    let t = told k p in
    let n = reported_none (refusal_at (record_of k.bytes) (at p) (lent p.lists k)) (record_of k.bytes) (at p) k.reply.answer r v.answer t.answer in
    let m : refusal_at (report budget limit) (ready c s) (lent p.lists k) ≡ none =
    subst (λ (a : History). refusal_at (report budget limit) a (lent p.lists k) ≡ none) v.at (subst (λ (w : Record). refusal_at w (at p) (lent p.lists k) ≡ none) v.decode n) in
    let few = or_false (short_half k.six.x c.n) (short_half k.six.z c.n) (six_long (short_lists p.lists.lists (length p.lists.window) (length k.work)) (short_six k.six) budget limit c s m) in
    by b (placed (step k) p).kept.lengths few
  where
    by : (b : Pauli) → KeptLengths (lent (begins p.lists p.before) k) k.left → (short_half k.six.x c.n ≡ false) × (short_half k.six.z c.n ≡ false)
        → LongHalf c.n (lists_for b k.left.six)
    by X e few = long_as c.n k.six.x k.left.six.x e.x (long_half c.n k.six.x few.0)
    by Z e few = long_as c.n k.six.z k.left.six.z e.z (long_half c.n k.six.z few.1)

----------------------------------------------------------------------
-- A kind 8 that agrees

-- A call that leaves state and lists as they were can be left out.
without : (st : State) (l : Passed) (before after : List Call) (k : Call) → state_left (state_after st before) k ≡ state_after st before
    → lists_left (begins l before) k ≡ begins l before → Run st l (before ++ (k ∷ after)) → Run st l (before ++ after)
without st l [] after k e f (call p run) = subst (λ (x : Passed). Run st x after) f (subst (λ (x : State). Run x (lists_left l k) after) e run)
without st l (j ∷ before) after k e f (call p run) = call p (without (state_left st j) (lists_left l j) before after k e f run)

untouched : (q : Option Refusal) (w : Record) (a : History) (j : ℕ) (x : Answer) (old new : Lent) → w ≡ encodes j → x ≡ Taken → x ≡ answer_of q w a
    → Left q w a old.lists new.lists → Written q w a old.six new.six → Unworked q w old.work new.work
    → (st : State) → WindowLeft w st old.window new.window x → new ≡ old
untouched (some n) w a j x old new e f g lists six work st window = let z : ◌≡◌ {A = Bool} true false = cc in never refl z
untouched none w a j x old new e f g lists six work st window =
    let lists' : new.lists ≡ old.lists = subst (λ (u : Record). Left none u a old.lists new.lists) e lists in
    let six' : new.six ≡ old.six = subst (λ (u : Record). Written none u a old.six new.six) e six in
    let work' : new.work ≡ old.work = subst (λ (u : Record). Unworked none u old.work new.work) e work in
    let window' : new.window ≡ old.window = subst (λ (u : Record). WindowLeft u st old.window new.window x) e window in
    λ t. record { lists = lists' t; window = window' t; work = work' t; six = six' t }

agreed : (k : Step) (p : Place (step k)) (j : ℕ) → record_of k.bytes ≡ encodes j → k.reply.answer ≡ Taken
    → (k.left ≡ lent (begins p.lists p.before) k) × Run p.state p.lists (p.before ++ p.after)
agreed k p j e f =
    let z = placed (step k) p in
    let l = begins p.lists p.before in
    let c = z.kept.carried (at p) z.held in
    let same = untouched (refusal_at (record_of k.bytes) (at p) (lent l k)) (record_of k.bytes) (at p) j k.reply.answer (lent l k) k.left e f c.answer c.lists c.six c.work (state_after p.state p.before) z.kept.window in
    (same, without p.state p.lists p.before p.after (step k) (z.kept.says.agreed j e f) (ap passed_of same) p.run)

----------------------------------------------------------------------
-- The claim

half_right : (h : Half) → Obeys h → (budget limit : ℕ) → HalfRight h budget limit (outcome h budget limit)
unfolding VerdictLaw CountedLaw EmptiedLaw FillingsLaw ClassesLaw ReachLaw
half_right h good budget limit =
    record {
      verdict = verdict h good budget limit;
      counted = counted h good budget limit;
      emptied = emptied h budget limit;
      reach = reach h budget limit;
      fillings = fillings h good budget limit;
      classes = classes h good budget limit;
    }

same_half : (h : Half) → Obeys h → (budget limit budget' limit' : ℕ) → budget ≤ budget' → limit ≤ limit'
    → SameHalf (outcome h budget limit) (outcome h budget' limit')
unfolding BudgetsLaw
same_half h good budget limit budget' limit' i j = budgets h good budget budget' limit limit' i j

half_read : (h : Half) → ((i : ℕ) → h.unread i ≡ false) → (budget limit : ℕ) → outcome h budget limit ≡ shown h.size (before h budget limit)
unfolding AllReadLaw
half_read h read = (all_read h read).outcome

half_one_word : (h : Half) (budget limit : ℕ) → budget ≤ 63 → (old new : HalfLists) → Shows h.size (outcome h budget limit) old new
    → OneWord h.size (outcome h budget limit) new
unfolding OneWordLaw
half_one_word = one_word

half_candidates : (h : Half) → Obeys h → (budget limit : ℕ) → finished? (outcome h budget limit).report.word ≡ true → Candidates h (outcome h budget limit)
unfolding CandidatesLaw
half_candidates = candidates

-- Of what a decode shows of a half.
shown_classes : (h : Half) → Obeys h → (budget limit : ℕ) (r : HalfReport) (l : HalfLists) → LongHalf h.size l → seen h.size r l ≡ outcome h budget limit
    → finished? r.word ≡ true → r.live ≤ 8 → ClassesShown h r l
shown_classes h obeys budget limit r l long same over few =
    let ended = subst (λ (x : Shown). finished? x.report.word ≡ true) same over in
    classes_shown h r l long over (subst (λ (x : Shown). (q : ℕ) → is_open x.mark q ≡ false) (sym same) (over_shut_all h obeys budget limit ended)) few
    (subst (Candidates h) (sym same) (half_candidates h obeys budget limit ended))

pub claim : Claim
claim =
    record {
      told = told;
      leaves = λ k p.
          let z = placed k p in
          held_after p.lists (begins p.lists p.before) (state_after p.state p.before) (at p) k z.long z.held z.kept;
      right = λ k p c s budget limit r v b.
          let z = shown_as k p c s budget limit r v in
          subst (HalfRight (half b c s) budget limit) (sym (z.same b)) (half_right (half b c s) (z.obeyed b) budget limit);
      same = λ k k' p p' c s budget limit budget' limit' r r' v v' i j b.
          let z = shown_as k p c s budget limit r v in
          let z' = shown_as k' p' c s budget' limit' r' v' in
          subst (λ (x : Shown). SameHalf x (shows b c r' k')) (sym (z.same b))
          (subst (SameHalf (outcome (half b c s) budget limit)) (sym (z'.same b)) (same_half (half b c s) (z.obeyed b) budget limit budget' limit' i j));
      one_word = λ k p c s budget limit r v few b.
          let z = shown_as k p c s budget limit r v in
          subst (λ (x : Shown). OneWord c.n x (lists_for b k.left.six)) (sym (z.same b))
          (half_one_word (half b c s) budget limit few (lists_for b k.six) (lists_for b k.left.six) (z.listed b));
      before = λ k p c s budget limit r v b read. (shown_as k p c s budget limit r v).same b ∙ half_read (half b c s) read budget limit;
      agreed = agreed;
      entered = λ k p. (placed (step k) p).kept.window;
      kept = λ k p.
          let z = placed k p in
          kept_after_call (begins p.lists p.before) (state_after p.state p.before) (reports_of [] p.before) k z.window z.kept;
      window = λ a p.
          let z = placed (look a) p in (
            read_fresh (reports_of [] p.before) (state_after p.state p.before).reports (begins p.lists p.before).window z.window a z.kept p.lists.window z.long.window,
            without p.state p.lists p.before p.after (look a) refl refl p.run,
          );
      candidates = λ k p c s budget limit r v b over few.
          let z = shown_as k p c s budget limit r v in
          shown_classes (half b c s) (z.obeyed b) budget limit (report_for b r) (lists_for b k.left.six) (left_long k p c s budget limit r v b) (z.same b) over few;
    }
