-- Calls one after the other. Assumes nothing.
use mathlib.Core.Path.{◌≡◌, refl, sym, ◌∙◌, ap}
use mathlib.Core.Bool.{Bool}
use mathlib.Core.List.{List, [], ◌∷◌, ◌++◌, append_assoc, append-nil, map}
use Prim.Native.Nat.{ℕ, zero, suc, ◌+◌, ◌≤◌, ◌<◌}
use native.Mathlib.Nat.{add-zero}
use native.Mathlib.Numerals.{add-one}
use native.Mathlib.Omega.{arith}
use lib.ListN.{length, length-append, get_or, set, take, drop}
use lib.Seq.{sets, sets-eq, take_at, take-suc-set, length-take-le}
use Rattle.claim.specs.Calls.{Step, step, Run, ended, call}
use Rattle.taking.specs.Taking.{Stand, One, next, Takes, none, more, line_of, lines_all, places_from, Took}

pub takes_join : {e : Bool} {w v u : Stand} {ks js : List Step} → Takes e w ks v → Takes e v js u → Takes e w (ks ++ js) u
takes_join none t = t
takes_join (more o r) t = more o (takes_join r t)

-- What is taken is a run of the stream's.
pub takes_run : {e : Bool} {w v : Stand} {ks : List Step} → Takes e w ks v → Run w.state w.lists (map step ks)
takes_run none = ended
takes_run (more o r) = call o.keeps (takes_run r)

pub lines_join : (ks js : List Step) → lines_all (ks ++ js) ≡ lines_all ks ++ lines_all js
unfolding lines_all
lines_join [] js = refl
lines_join (k ∷ ks) js = rw (lines_join ks js, append_assoc)

pub places_join : (n : ℕ) (ks js : List Step) → places_from n (ks ++ js) ≡ places_from n ks ++ places_from (n + length (lines_all ks)) js
unfolding lines_all places_from
places_join n [] js = rw (add-zero n)
places_join n (k ∷ ks) js =
    let e : n + length (line_of k) + length (lines_all ks) ≡ n + length (line_of k ++ lines_all ks) = rw (length-append (line_of k) (lines_all ks)) (omega arith) in
    rw (places_join (n + length (line_of k)) ks js, e)

pub places_long : (n : ℕ) (ks : List Step) → length (places_from n ks) ≡ length ks
unfolding places_from
places_long n [] = refl
places_long n (k ∷ ks) = ap suc (places_long (n + length (line_of k)) ks)

-- No place lies behind the lines.
pub places_within : (n : ℕ) (ks : List Step) (i : ℕ) → i < length (places_from n ks) → get_or (places_from n ks) i 0 ≤ n + length (lines_all ks)
unfolding lines_all places_from
places_within n [] i h = absurd (omega arith)
places_within n (k ∷ ks) zero h = rw (length-append (line_of k) (lines_all ks)) (omega arith)
places_within n (k ∷ ks) (suc i) h =
    rw (length-append (line_of k) (lines_all ks)) (omega (arith, places_within (n + length (line_of k)) ks i (omega arith)))

-- Places behind a text.
pub places_behind : (n m : ℕ) (ks : List Step) (i : ℕ) → i < length (places_from m ks) → get_or (places_from (n + m) ks) i 0 ≡ n + get_or (places_from m ks) i 0
unfolding places_from
places_behind n m [] i h = absurd (omega arith)
places_behind n m (k ∷ ks) zero h = omega arith
places_behind n m (k ∷ ks) (suc i) h =
    let e : n + m + length (line_of k) ≡ n + (m + length (line_of k)) = omega arith in
    rw e (places_behind n (m + length (line_of k)) ks i (omega arith))

-- Before the first call.
pub took_none : (e : Bool) (w : Stand) (out places : List ℕ) → Took e w w 0 0 out places
unfolding lines_all places_from
took_none e w out places = record { calls = []; takes = none; text = refl; ends = refl }

----------------------------------------------------------------------
-- One call more

one_line : (k : Step) → lines_all (k ∷ []) ≡ line_of k
unfolding lines_all
one_line k = append-nil (line_of k)

one_place : (n : ℕ) (k : Step) → places_from n (k ∷ []) ≡ (n + length (line_of k)) ∷ []
unfolding places_from
one_place n k = refl

module _ (e : Bool) (w v : Stand) (put noted : ℕ) (out places : List ℕ) (k : Step) (t : Took e w v put noted out places) (o : One e v k) (fits : put + length (line_of k) ≤ length out) (place : noted < length places) where
  put_long : put ≡ length (lines_all t.calls)
  put_long = sym (length-take-le put out (omega arith)) ∙ ap length t.text

  put_more : take (put + length (line_of k)) (sets out put (line_of k)) ≡ take put out ++ line_of k
  put_more =
      let l : length (take put out ++ line_of k) ≡ put + length (line_of k) = rw (length-append (take put out) (line_of k), length-take-le put out (omega arith)) in
      rw (sets-eq (line_of k) out put fits) (take_at (take put out ++ line_of k) (drop (put + length (line_of k)) out) (put + length (line_of k)) l)

  here : 0 + length (lines_all t.calls) ≡ put
  here = omega (arith, put_long)

  pub took_more : Took e w (next e v k) (put + length (line_of k)) (noted + 1) (sets out put (line_of k)) (set places noted (put + length (line_of k)))
  took_more =
      record {
        calls = t.calls ++ (k ∷ []);
        takes = takes_join t.takes (more o none);
        text = rw (put_more, lines_join t.calls (k ∷ []), one_line k, t.text);
        ends = rw (add-one noted, take-suc-set places noted (put + length (line_of k)) place, places_join 0 t.calls (k ∷ []), one_place (0 + length (lines_all t.calls)) k, t.ends, here);
      }
