-- The join: over the tables of given rules, each call leaves the marks, rounds and choices of the reference.
use mathlib.Core.Path.{◌≡◌, refl, sym, ap, ap₂, ◌∙◌, subst}
use mathlib.Core.Bool.{Bool, false, ◌&&◌, ◌||◌, not}
use mathlib.Core.List.{List, [], ◌++◌}
use Prim.Native.Nat.{ℕ, suc, ◌+◌, ◌-◌, ◌*◌, ◌≤◌, ◌<◌}
use native.Mathlib.Numerals.{add-one}
use native.Mathlib.Omega.{arith}
use lib.ListN.{get_or, length, take, drop, replicate, length-map, length-append, get_or-append}
use lib.Seq.{ext_get_or, get_or-take, length-take-le}
use Rattle.facts.specs.Bits.{has}
use Rattle.facts.specs.Pack.{add_if, pack, has_pack}
use Rattle.atl.specs.Bounded.{tabulate}
use Rattle.atl.specs.Game as G
use Rattle.atl.specs.Arena.{IsArena}
use Rattle.atl.specs.Marking.{marked, eventually, rounds, plan}
use Rattle.atl.proofs.Bounded.{length_tabulate, get_d_tabulate}
use Rattle.atl.proofs.Roles as roles
use Rattle.atl.proofs.Same.{Same, next_same, until_same, always_same, rounds_same, plan_same}
use Rattle.meaning.specs.Lists.{all, place}
use Rattle.meaning.specs.Rules.{Rules, options, moves, targets}
use Rattle.meaning.specs.Atl.{Node, TEST, NOT, AND, OR, CAN, EVENTUALLY, node_at, Below, InOrder}
use Rattle.meaning.specs.Model.{IsModel, total, starts, successors}
use Rattle.meaning.specs.Filling.{arena}
use Rattle.meaning.specs.Radix.{product, alike, counts}
use Rattle.meaning.specs.Marks as reference
use Rattle.meaning.specs.Marks.{played, mark_time, mark, is_marked}
use Rattle.meaning.specs.Reference.{rounds_for, choices_for, answer}
use Rattle.meaning.proofs.Firsts.{Distinct}
use Rattle.meaning.proofs.Radix.{length_joints}
use Rattle.meaning.proofs.Tables.{starts_length, starts_next, starts_moves, successors_right}
use Rattle.meaning.proofs.Numbering.{numbers}
use Rattle.meaning.proofs.Bridge.{is_arena}
use Rattle.meaning.proofs.Tabled.{digital_same}
use Rattle.meaning.proofs.Nodes.{marks_are}
use Rattle.radix.specs.Classes.{row, moves_at}
use Rattle.radix.proofs.Filling.{filled_at, filled_left}
use Rattle.marking.specs.Rule.{bits}
use Rattle.marks.specs.Noted.{entry, noted}
use Rattle.marks.specs.Model.{Model, in_counts}
use Rattle.marks.specs.Node.{timed, kind_of}
use Rattle.marks.specs.Held.{Held, Marked}
use Rattle.sheet.specs.declared.question.Future.{Future}
use Rattle.sheet.specs.declared.question.Future.TheVariants.{Next, Always, Eventually, Until}
use Rattle.marks.proofs.Ones.{product_ones, alike_ones, row_is}
use Rattle.marks.proofs.Sets.{rounds_sets, until_sets, always_sets, next_sets}

length_moves : (R : Rules) (s : ℕ) → length (moves R s) ≡ product (counts R.roles (options R s))
unfolding moves
length_moves R s = length_joints R.roles (options R s)

-- The tables of a model of at most `room` positions and `limit` joint moves. No role has a choice twice, and there are at most four.
module _ (R : Rules) (l : List ℕ) (room limit : ℕ) (is : IsModel R room limit l) (four : R.roles ≤ 4)
    (distinct : (i r : ℕ) → i < length l → r < R.roles → Distinct (options R (get_or l i 0) r))
    (n : ℕ) (starting following counting : List ℕ) (held : Held R l n starting following counting)
  where
    law : IsArena (arena R l)
    law = is_arena R is.playable l (numbers R l is.positions)

    moved : (i : ℕ) → i < length l → moves_at starting i ≡ (arena R l).moves i
    moved i h =
        ap₂ (λ (x y : ℕ). x - y) (held.starts_are (i + 1) (omega arith)) (held.starts_are i (omega arith))
        ∙ ap (λ (k : ℕ). get_or (starts R l) k 0 - get_or (starts R l) i 0) (add-one i) ∙ starts_moves R l i h

    all_moves : length (successors R l) ≡ total R l
    all_moves = length-map (all (targets R) l) (λ t. place t l)

    landed : (i j : ℕ) → i < length l → j < (arena R l).moves i → get_or following (get_or starting i 0 + j) 0 ≡ (arena R l).to i j
    landed i j h b =
        let (u, v) = successors_right R l i j h b in
        ap (λ (k : ℕ). get_or following (k + j) 0) (held.starts_are i (omega arith)) ∙ held.successors_are _ (omega (arith, all_moves)) ∙ v

    ended : (i : ℕ) → i < length l → get_or starting (i + 1) 0 ≤ total R l
    ended i h =
        let m = law.movable i h in
        let j = (arena R l).moves i - 1 in
        let (u, v) = successors_right R l i j h (omega arith) in
        let e : get_or starting (i + 1) 0 ≡ get_or (starts R l) i 0 + (arena R l).moves i =
        held.starts_are (i + 1) (omega arith) ∙ ap (λ (k : ℕ). get_or (starts R l) k 0) (add-one i) ∙ starts_next R l i h in
        omega (arith, all_moves, u, e)

    row_held : (i : ℕ) → i < length l → row counting i ≡ counts R.roles (options R (get_or l i 0)) ++ replicate (4 - R.roles) 1
    row_held i h = row_is counting i R.roles (options R (get_or l i 0)) four (λ r b. held.counts_are i r h b) (λ r a b. held.counts_left i r h a b)

    full : (i : ℕ) → i < length l → moves_at starting i ≡ product (row counting i)
    full i h =
        moved i h ∙ length_moves R (get_or l i 0)
        ∙ sym (ap product (row_held i h) ∙ product_ones (counts R.roles (options R (get_or l i 0))) (4 - R.roles))

    -- The tables are a model.
    pub is_model : length following ≤ limit → Model room limit n starting following counting
    is_model fits = record {
      few = omega (arith, held.number, is.few);
      fits = fits;
      placed = record {
        long = held.starts_long;
        up = λ i h. let m = law.movable i (omega (arith, held.number)) in let e = moved i (omega (arith, held.number)) in omega arith;
        within = λ i h. let e = ended i (omega (arith, held.number)) in omega (arith, held.successors_long);
      };
      landed = λ i h j b.
          let g : i < length l = omega (arith, held.number) in
          let b' : j < (arena R l).moves i = subst (λ (x : ℕ). j < x) (moved i g) b in
          subst (λ (x : ℕ). x < n) (sym (landed i j g b')) (let s = law.stays i j g b' in omega (arith, held.number));
      counted = record { inside = held.counts_long; full = λ i h. full i (omega (arith, held.number)) };
    }

    -- They hold the game of the reference, for each coalition.
    pub same_game : (C : ℕ) → Same (played R l C) (in_counts n starting following counting C)
    same_game C = record {
      states = sym held.number;
      moves = λ i h. sym (moved i h);
      to = λ i j h b. sym (landed i j h b);
      agree = λ i j k h b c.
          let ns = counts R.roles (options R (get_or l i 0)) in
          (digital_same R l C distinct).agree i j k h b c
          ∙ sym (ap (λ (x : List ℕ). alike x (has C) j k) (row_held i h)
          ∙ alike_ones ns (4 - R.roles) (has C) j k (subst (λ (x : ℕ). j < x) (length_moves R (get_or l i 0)) b) (subst (λ (x : ℕ). k < x) (length_moves R (get_or l i 0)) c));
    }

    -- The nodes of a question, and the marks of the first k of them.
    module _ (nodes : List Node) (order : InOrder nodes) (k : ℕ) (here : k < length nodes) (marks : List ℕ) (before : Marked R l nodes k marks) (long : n ≤ length marks) where
      abbrev E : ℕ → List Bool
      E a = get_or (reference.marks R l nodes) a []

      bit_is : (a : ℕ) → a < k → (i : ℕ) → i < length l → bits marks a i ≡ marked (E a) i
      bit_is a b i h = ap (λ (x : ℕ). has x a) (before i h) ∙ has_pack (is_marked R l nodes i) k a b

      -- one more node
      module _ (ms : List ℕ) where
        noted_more : (w : G.States) → ((i : ℕ) → i < length l → w i ≡ is_marked R l nodes i k) → ms ≡ noted n k w marks → Marked R l nodes (suc k) ms
        unfolding pack
        noted_more w f e i h =
            ap (λ (x : List ℕ). get_or x i 0) e ∙ filled_at (entry k w marks) marks n i long (omega (arith, held.number))
            ∙ ap₂ (λ (x : Bool) (y : ℕ). add_if x y k) (f i h) (before i h)

        module _ (node : Node) (is_node : node_at nodes k ≡ node) where
          node_is : get_or (reference.marks R l nodes) k [] ≡ mark R l E node
          node_is = marks_are R l nodes order k here ∙ ap (mark R l E) is_node

          below : Below k node
          below = subst (Below k) is_node (order k here)

          by_table : (w p : G.States) → mark R l E node ≡ tabulate (length l) p → ((i : ℕ) → i < length l → w i ≡ p i) → ms ≡ noted n k w marks → Marked R l nodes (suc k) ms
          by_table w p d f e =
              noted_more w (λ i h. f i h ∙ sym (ap (λ (x : List Bool). marked x i) (node_is ∙ d) ∙ get_d_tabulate (length l) p false i h)) e

        -- A plain test that was evaluated elsewhere.
        pub test_right : (t : ℕ) → node_at nodes k ≡ TEST t → (w : G.States) → ((i : ℕ) → i < length l → w i ≡ R.test t (get_or l i 0)) → ms ≡ noted n k w marks → Marked R l nodes (suc k) ms
        unfolding mark
        test_right t q w f e = by_table (TEST t) q w (λ i. R.test t (get_or l i 0)) refl f e

        pub not_right : (a : ℕ) → node_at nodes k ≡ NOT a → ms ≡ noted n k (λ i. not (bits marks a i)) marks → Marked R l nodes (suc k) ms
        unfolding mark
        not_right a q e =
            by_table (NOT a) q _ (λ i. not (marked (E a) i)) refl (λ i h. ap not (bit_is a (below (NOT a) q) i h)) e

        pub and_right : (a b : ℕ) → node_at nodes k ≡ AND a b → ms ≡ noted n k (λ i. bits marks a i && bits marks b i) marks → Marked R l nodes (suc k) ms
        unfolding mark
        and_right a b q e =
            by_table (AND a b) q _ (λ i. marked (E a) i && marked (E b) i) refl
            (λ i h. ap₂ ◌&&◌ (bit_is a (below (AND a b) q).0 i h) (bit_is b (below (AND a b) q).1 i h)) e

        pub or_right : (a b : ℕ) → node_at nodes k ≡ OR a b → ms ≡ noted n k (λ i. bits marks a i || bits marks b i) marks → Marked R l nodes (suc k) ms
        unfolding mark
        or_right a b q e =
            by_table (OR a b) q _ (λ i. marked (E a) i || marked (E b) i) refl
            (λ i h. ap₂ ◌||◌ (bit_is a (below (OR a b) q).0 i h) (bit_is b (below (OR a b) q).1 i h)) e

      -- A coalition's future.
      module _ (C : ℕ) where
        abbrev H : G.Game
        H = in_counts n starting following counting C

        game_law : G.IsGame (played R l C)
        game_law = roles.is_game_lem (arena R l) law (has C)

        timed_is : (f : Future) → Below k (CAN C (kind_of f)) → timed H (bits marks) f ≡ mark_time R l E (played R l C) (kind_of f)
        unfolding timed mark_time
        timed_is (Next a) b = sym (next_same _ _ (same_game C) (bits marks a)) ∙ next_sets (played R l C) game_law _ _ (bit_is a b)
        timed_is (Always a) b = sym (always_same _ _ (same_game C) (bits marks a)) ∙ always_sets (played R l C) _ _ (bit_is a b)
        timed_is (Eventually a) b =
            sym (until_same _ _ (same_game C) G.everything (bits marks a)) ∙ until_sets (played R l C) G.everything G.everything _ _ (λ i h. refl) (bit_is a b)
        timed_is (Until a b) c =
            sym (until_same _ _ (same_game C) (bits marks a) (bits marks b)) ∙ until_sets (played R l C) _ _ _ _ (bit_is a c.0) (bit_is b c.1)

        pub future_right : (f : Future) (ms : List ℕ) → node_at nodes k ≡ CAN C (kind_of f) → ms ≡ noted n k (marked (timed H (bits marks) f)) marks → Marked R l nodes (suc k) ms
        unfolding mark
        future_right f ms q e =
            noted_more ms _ (λ i h.
            ap (λ (x : List Bool). marked x i) (timed_is f (below ms (CAN C (kind_of f)) q) ∙ sym (node_is ms (CAN C (kind_of f)) q))) e

        -- EVENTUALLY as the last node: the rounds and the choices.
        module _ (a : ℕ) (q : node_at nodes k ≡ CAN C (EVENTUALLY a)) where
          counts_are : rounds H G.everything (bits marks a) ≡ reference.counts_of R l nodes C a
          counts_are =
              sym (rounds_same _ _ (same_game C) G.everything (bits marks a))
              ∙ rounds_sets (played R l C) G.everything G.everything _ _ (λ i h. refl) (bit_is a (below marks (CAN C (EVENTUALLY a)) q))

          pub last_right : (ms : List ℕ) → ms ≡ noted n k (marked (eventually H (bits marks a))) marks → Marked R l nodes (suc k) ms
          unfolding timed
          last_right ms e = future_right (Eventually a) ms q e

          pub rounds_right : (rs rs' : List ℕ) → rs' ≡ rounds H G.everything (bits marks a) ++ drop n rs → rs' ≡ rounds_for R nodes l (node_at nodes k) ++ drop n rs
          unfolding rounds_for
          rounds_right rs rs' e = e ∙ ap (λ (x : List ℕ). x ++ drop n rs) (counts_are ∙ ap (rounds_for R nodes l) (sym q))

          pub choices_right : (cs cs' : List ℕ) → cs' ≡ plan H (rounds H G.everything (bits marks a)) ++ drop n cs → cs' ≡ choices_for R nodes l (node_at nodes k) ++ drop n cs
          unfolding choices_for
          choices_right cs cs' e =
              e ∙ ap (λ (x : List ℕ). x ++ drop n cs)
              (ap (plan H) counts_are ∙ sym (plan_same _ _ (same_game C) (reference.counts_of R l nodes C a)) ∙ ap (choices_for R nodes l) (sym q))

-- What stands beyond the positions is as it was.
pub untouched : (n k : ℕ) (w : G.States) (marks ms : List ℕ) → ms ≡ noted n k w marks → (i : ℕ) → n ≤ i → get_or ms i 0 ≡ get_or marks i 0
untouched n k w marks ms e i h = ap (λ (x : List ℕ). get_or x i 0) e ∙ filled_left (entry k w marks) marks n i 0 h

-- After the last node the table begins with the marks of the reference's answer.
pub marks_answer : (R : Rules) (l : List ℕ) (nodes : List Node) (marks : List ℕ) → length l ≤ length marks → Marked R l nodes (length nodes) marks
    → take (length l) marks ≡ (answer R nodes l).marks
marks_answer R l nodes marks long done =
    ext_get_or 0 _ _ (length-take-le (length l) marks long ∙ sym (length_tabulate (length l) _)) (λ i h.
    let b : i < length l = rw (length-take-le (length l) marks long) at h in
    get_or-take (length l) marks i 0 b ∙ done i b ∙ sym (get_d_tabulate (length l) (λ i. pack (is_marked R l nodes i) (length nodes)) 0 i b))

-- Tables that begin with those of the reference hold the model.
pub held_made : (R : Rules) (l : List ℕ) (n : ℕ) (starting following counting s f : List ℕ) → n ≡ length l → starting ≡ starts R l ++ s → following ≡ successors R l ++ f
    → 4 * n ≤ length counting
    → ((i r : ℕ) → i < length l → r < R.roles → get_or counting (4 * i + r) 0 ≡ length (options R (get_or l i 0) r))
    → ((i r : ℕ) → i < length l → R.roles ≤ r → r < 4 → get_or counting (4 * i + r) 0 ≡ 1)
    → Held R l n starting following counting
held_made R l n starting following counting s f e p q c are left =
    let a : length (starts R l) ≡ suc (length l) = starts_length R l in
    let b : length (successors R l) ≡ total R l = length-map (all (targets R) l) (λ t. place t l) in
    let u : length starting ≡ length (starts R l) + length s = ap length p ∙ length-append (starts R l) s in
    let v : length following ≡ length (successors R l) + length f = ap length q ∙ length-append (successors R l) f in
    record {
      number = e;
      starts_long = omega arith;
      starts_are = λ i h. ap (λ (x : List ℕ). get_or x i 0) p ∙ get_or-append (starts R l) s 0 i (omega arith);
      successors_long = omega arith;
      successors_are = λ i h. ap (λ (x : List ℕ). get_or x i 0) q ∙ get_or-append (successors R l) f 0 i (omega arith);
      counts_long = c;
      counts_are = are;
      counts_left = left;
    }
