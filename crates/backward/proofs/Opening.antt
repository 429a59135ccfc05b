-- What the loops before the walk come to: the counters of the classes, and those of the positions.
use mathlib.Core.Path.{◌≡◌, refl, sym, ap, ap₂, ◌∙◌}
use mathlib.Core.Bool.{Bool, false, not, cond}
use mathlib.Core.List.{List, ◌++◌}
use Prim.Native.Nat.{ℕ, zero, suc, ◌+◌, ◌-◌, ◌≤◌, ◌<◌}
use native.Mathlib.Nat.{le_refl}
use native.Mathlib.Numerals.{add-one}
use native.Mathlib.Omega.{arith}
use lib.Dec.{eqb, ltb}
use lib.ListN.{get_or, length, take, drop, length-drop, replicate, length-replicate, length-append}
use lib.Seq.{length-take-le}
use borrow.Author.Tests.{lt-ltb, ne_eqb}
use Rattle.std.proofs.Common.{add-zero}
use Rattle.std.specs.List.{count_by}
use Rattle.std.proofs.lemmas.List.{get_or-take, get_or-drop, get_or-replicate, get_or_append_left, take_all}
use Rattle.std.proofs.lemmas.List.Sums.{count_by_more_yes, count_by_more_no, count_by-le-length}
use Rattle.radix.specs.Classes.{moves_at}
use Rattle.incoming.specs.Index.{at, bit, many}
use Rattle.incoming.specs.Build.{tallied}
use Rattle.incoming.proofs.Counting.{many_cong, many_le}
use Rattle.incoming.proofs.Build.{tally_length, tally_at}
use Rattle.incoming.proofs.Owners.{before}
use Rattle.backward.specs.Ground.{positions, joints, class_of, waits}
use Rattle.backward.specs.declared.ground.Ground.{Ground}
use Rattle.backward.proofs.Lines.{kind_lt}

-- one counter more
some_more : (counters : List ℕ) (k : ℕ) → k < length counters → count_by (λ x. not (eqb x 0)) (take k counters) ≡ many k (λ j. ltb 0 (at counters j)) → (x : ℕ) → at counters k ≡ x
    → count_by (λ x. not (eqb x 0)) (take (k + 1) counters) ≡ many k (λ j. ltb 0 (at counters j)) + bit (ltb 0 (at counters k))
some_more counters k h f zero e =
    count_by_more_no (λ x. not (eqb x 0)) counters k 0 h (ap (λ (x : ℕ). not (eqb x 0)) e)
    ∙ f ∙ sym (add-zero _) ∙ ap (λ (x : ℕ). many k (λ j. ltb 0 (at counters j)) + bit (ltb 0 x)) (sym e)
some_more counters k h f (suc x) e =
    count_by_more_yes (λ x. not (eqb x 0)) counters k 0 h (ap not (ne_eqb (at counters k) 0 (λ o. absurd (omega arith))))
    ∙ ap₂ ◌+◌ f (sym (ap bit (lt-ltb 0 (at counters k) (omega arith))))

-- how many of the first k counters are not 0
some_of : (counters : List ℕ) (k : ℕ) → k ≤ length counters → count_by (λ x. not (eqb x 0)) (take k counters) ≡ many k (λ j. ltb 0 (at counters j))
some_of counters zero h = refl
some_of counters (suc k) h = rw (← add-one k) (some_more counters k (omega arith) (some_of counters k (omega arith)) (at counters k) refl)

-- the counter of one position, from the counters of its classes
module _ (g : Ground) (left : List ℕ) (i : ℕ) (h : i < positions g) (room : joints g ≤ length left) (first last : ℕ)
    (e : first ≡ get_or g.board.joints.starts.now i 0) (d : last ≡ get_or g.board.joints.starts.now (i + 1) 0)
  where
    pub members_rise : first ≤ last
    members_rise = omega (arith, g.board.tables.placed.up i h)

    pub members_end : last ≤ length left
    members_end = omega (arith, before g.board.tables.placed i (positions g) h (le_refl _))

    abbrev pub members : List ℕ
    members = take (last - first) (drop first left)

    members_long : length members ≡ last - first
    members_long = length-take-le (last - first) _ (omega (arith, members_end, length-drop first left))

    member_at : (k : ℕ) → k < length members → at members k ≡ at left (first + k)
    member_at k l = get_or-take (last - first) _ k 0 (omega (arith, members_long)) ∙ get_or-drop first left k 0

    pub some_few : (x : ℕ) → x ≡ count_by (λ x. not (eqb x 0)) members → x ≤ last
    some_few x f = omega (arith, members_long, count_by-le-length (λ x. not (eqb x 0)) members)

    pub some_waits : g.want ≡ false → (x : ℕ) → x ≡ count_by (λ x. not (eqb x 0)) members → x ≡ waits g left i
    some_waits w x f =
        f
        ∙ ap (count_by (λ x. not (eqb x 0))) (sym (take_all (length members) members (le_refl _)))
        ∙ some_of members (length members) (le_refl _)
        ∙ many_cong (length members) _ _ (λ k l. ap (ltb 0) (member_at k l))
        ∙ ap₂ (λ (n s : ℕ). many n (λ k. ltb 0 (at left (s + k)))) (members_long ∙ ap₂ ◌-◌ d e) e
        ∙ sym (ap (λ (b : Bool). cond b 1 (many (moves_at g.board.joints.starts.now i) (λ k. ltb 0 (at left (at g.board.joints.starts.now i + k))))) w)

-- the counters of the classes, cleared and then raised by each joint move
module _ (g : Ground) (total : ℕ) (e : total ≡ joints g) (l front : List ℕ) (room : joints g ≤ length l) (d : front ≡ replicate (length (take total l)) 0)
    (m : List ℕ) (p : ℕ) (f : m ≡ tallied (class_of g) (front ++ drop total l) p)
  where
    front_long : length front ≡ total
    front_long = ap length d ∙ length-replicate (length (take total l)) 0 ∙ length-take-le total l (omega arith)

    long : length m ≡ length l
    long =
        let z = length-append front (drop total l) in
        let y = length-drop total l in
        omega (arith, tally_length (class_of g) (front ++ drop total l) m p f, front_long)

    cleared : (c : ℕ) → c < total → at (front ++ drop total l) c ≡ 0
    cleared c h =
        get_or_append_left front (drop total l) 0 c (omega (arith, front_long))
        ∙ ap (λ (x : List ℕ). at x c) d
        ∙ get_or-replicate (length (take total l)) c 0 0 (omega (arith, length-take-le total l (omega arith)))

    counted : (c : ℕ) → c < total → at m c ≡ many p (λ q. eqb (class_of g q) c)
    counted c h =
        let z = length-append front (drop total l) in
        let y = length-drop total l in
        omega (arith, tally_at (class_of g) (front ++ drop total l) m p c f (omega (arith, front_long)), cleared c h)

    pub members_ask : (c : ℕ) → p < total → total < 65536 → c ≡ class_of g p → (c < length m) × (get_or m c 0 < 65535)
    members_ask c h k o =
        let z = kind_lt g.board.tables g.leads p (omega arith) in
        (omega (arith, long), omega (arith, counted c (omega arith), many_le p (λ q. eqb (class_of g q) c)))

    pub members_all : p ≤ total → total ≤ p → (c : ℕ) → c < joints g → at m c ≡ many (joints g) (λ p. eqb (class_of g p) c)
    members_all h k c o = let z : p ≡ joints g = omega arith in counted c (omega arith) ∙ ap (λ (p : ℕ). many p (λ q. eqb (class_of g q) c)) z
