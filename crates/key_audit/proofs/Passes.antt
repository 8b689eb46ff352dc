-- A pass over the edges follows each edge that begins at a known key. If a pass finds no new key, all reached keys are
-- known.
use Rattle.std.proofs.Common.{◌≡◌, ◌<◌, ◌≤◌, ◌+◌, ◌⊎◌, ℕ, zero, suc, Bool, true, false, true≢false, cond, List, [], ◌∷◌, length, take, get_or, inl, inr, refl, sym, ap, subst, ◌∙◌, arith}
use Rattle.std.specs.Prelude.{Contains, IsTrue, not, ◌↔◌, ◌||◌}
use Rattle.std.specs.List.{list_any}
use Rattle.std.specs.BTreeMap.{is_at}
use Rattle.std.specs.BTreeSet.{BTreeSet, Updates, contains}
use Rattle.std.specs.Cmp.{Equal-is, tied_itself}
use Rattle.std.proofs.lemmas.Bool.{cases_Bool}
use Rattle.std.proofs.lemmas.List.{take_more, take_all}
use Rattle.std.proofs.lemmas.List.Folds.{list_any_more}
use Rattle.std.proofs.lemmas.List.Elements.{Contains-push_cases, Contains-get_or}
use Rattle.key_names.specs.declared.names.KeyName.{KeyName}
use Rattle.key_names.specs.contracts.names.KeyNameOrd.TheImpl.{ghosts as names}
use Rattle.key_names.specs.contracts.names.KeyNameOrd.TheImpl.Laws.{total-law}
use Rattle.key_audit.specs.declared.edges.Edge.{Edge}
use Rattle.key_audit.specs.Edges.{Follows, Has, HasPassed, IsReached}
use Rattle.key_audit.specs.Edges.IsReached.{first, along}
use Rattle.key_audit.proofs.Index.{found_name}

-- ---- following one edge

module _ (edge : Edge) (old new : BTreeSet KeyName) (known : Has old edge.from)
    (updates : Updates names.cmp old new edge.to true) where
  stays_put : (key : KeyName) → Has old key → Has new key
  stays_put key has = elim (cases_Bool (is_at (names.cmp edge.to) key)) [
    | inl same ↦ updates.0 key ∙ rw same refl
    | inr other ↦ updates.2 key other ∙ has
  ]

  only_it : (key : KeyName) → Has new key → Has old key ⊎ ((edge.to ≡ key) × Has old edge.from)
  only_it key has = elim (cases_Bool (is_at (names.cmp edge.to) key)) [
    | inl same ↦ inr (found_name edge.to key same, known)
    | inr other ↦ inl (sym (updates.2 key other) ∙ has)
  ]

  pub inserted : (more : Bool) → more ≡ not (contains names.cmp old edge.to) → Follows edge old new more
  inserted more is = record {
    stays = stays_put;
    only = only_it;
    led = λ has. updates.1;
    none = λ not_more key has. elim (only_it key has) [
      | inl was ↦ was
      | inr new_one ↦ subst (Has old) new_one.0 (not_false (contains names.cmp old edge.to) (sym is ∙ not_more))
    ];
    some = λ is_more. (not_true (contains names.cmp old edge.to) (sym is ∙ is_more), updates.1);
  }
    where
      not_false : (b : Bool) → not b ≡ false → b ≡ true
      not_false true e = refl
      not_false false e = absurd (true≢false e)

      not_true : (b : Bool) → not b ≡ true → b ≡ false
      not_true true e = absurd (true≢false (sym e))
      not_true false e = refl

pub unfollowed : (edge : Edge) (old : BTreeSet KeyName) → contains names.cmp old edge.from ≡ false →
    Follows edge old old false
unfollowed edge old none = record {
  stays = λ key has. has;
  only = λ key has. inl has;
  led = λ has. absurd (true≢false (sym has ∙ none));
  none = λ e key has. has;
  some = λ e. absurd (true≢false (sym e));
}

-- ---- following the first edges of a pass

-- a pass over the first `i` edges changed the known keys from `old` to `new`; `more` is whether it found a new key
pub record PassedTo (edges : List Edge) (i : ℕ) (old new : BTreeSet KeyName) (more : Bool) : Type 0 where
  pub stays : (key : KeyName) → Has old key → Has new key
  pub reached : (start : List KeyName) → ((key : KeyName) → Has old key → IsReached edges start key) →
      (key : KeyName) → Has new key → IsReached edges start key
  pub none : more ≡ false → (key : KeyName) → Has new key → Has old key
  pub closed : more ≡ false → (edge : Edge) → Contains (take i edges) edge → Has old edge.from → Has old edge.to
  pub some : more ≡ true →
      (edge : Edge) × Contains edges edge × (contains names.cmp old edge.to ≡ false) × Has new edge.to

pub started : (edges : List Edge) (old : BTreeSet KeyName) → PassedTo edges 0 old old false
started edges old = record {
  stays = λ key has. has;
  reached = λ start was. was;
  none = λ e key has. has;
  closed = λ e edge (k, low, at) has. absurd (omega (arith, low));
  some = λ e. absurd (true≢false (sym e));
}

module _ (edges : List Edge) (i : ℕ) (d : Edge) (low : i < length edges) (first old new : BTreeSet KeyName) where
  in_next : (e : Edge) → Contains (take (i + 1) edges) e → Contains (take i edges) e ⊎ (get_or edges i d ≡ e)
  in_next e has = Contains-push_cases (take i edges) (get_or edges i d) e
      (subst (λ es. Contains es e) (take_more edges i d low) has)

  along_one : (start : List KeyName) (more : Bool) → Follows (get_or edges i d) old new more →
      ((key : KeyName) → Has old key → IsReached edges start key) →
      (key : KeyName) → Has new key → IsReached edges start key
  along_one start more follows was key has = elim (follows.only key has) [
    | inl before ↦ was key before
    | inr (to, from) ↦ subst (IsReached edges start) to (along (was (get_or edges i d).from from)
        (Contains-get_or edges i d low))
  ]

  -- if edge `i` leads to a new key, the pass over the first `i + 1` edges found a new key
  pub one_new : (before : Bool) → PassedTo edges i first old before → Follows (get_or edges i d) old new true →
      PassedTo edges (i + 1) first new true
  one_new before passed follows = record {
    stays = λ key has. follows.stays key (passed.stays key has);
    reached = λ start was. along_one start true follows (passed.reached start was);
    none = λ e. absurd (true≢false e);
    closed = λ e. absurd (true≢false e);
    some = λ e. (
      get_or edges i d,
      Contains-get_or edges i d low,
      elim (cases_Bool (contains names.cmp first (get_or edges i d).to)) [
        | inl was ↦ absurd (true≢false (sym (passed.stays (get_or edges i d).to was) ∙ (follows.some refl).0))
        | inr not_yet ↦ not_yet
      ],
      (follows.some refl).1,
    );
  }

  -- if edge `i` leads to no new key, the pass over the first `i + 1` edges found a new key exactly if the pass over the
  -- first `i` edges did
  pub none_new : (before : Bool) → PassedTo edges i first old before → Follows (get_or edges i d) old new false →
      PassedTo edges (i + 1) first new before
  none_new before passed follows = record {
    stays = λ key has. follows.stays key (passed.stays key has);
    reached = λ start was. along_one start false follows (passed.reached start was);
    none = λ e key has. passed.none e key (follows.none refl key has);
    closed = λ e one has from. elim (in_next one has) [
      | inl earlier ↦ passed.closed e one earlier from
      | inr here ↦ subst (λ (x : Edge). Has first x.from → Has first x.to) here
          (λ known. passed.none e (get_or edges i d).to
          (follows.none refl (get_or edges i d).to (follows.led (passed.stays (get_or edges i d).from known)))) from
    ];
    some = λ e. let it = passed.some e in (it.0, it.1, it.2, follows.stays it.0.to it.3);
  }

pub passed_all : (edges : List Edge) (n : ℕ) (old new : BTreeSet KeyName) (more : Bool) → length edges ≤ n →
    PassedTo edges n old new more → HasPassed edges old new more
passed_all edges n old new more all passed = record {
  stays = passed.stays;
  reached = passed.reached;
  closed = λ e edge has from. passed.stays edge.to (passed.closed e edge
      (subst (λ es. Contains es edge) (sym (take_all n edges all)) has) (passed.none e edge.from from));
  some = passed.some;
}

-- ---- passes until no new key is found

-- how many of the edges lead to keys that are not known yet
abbrev pub unknown : List Edge → BTreeSet KeyName → ℕ
unknown [] known = 0
unknown (edge ∷ edges) known = cond (contains names.cmp known edge.to) 0 1 + unknown edges known

module _ (old new : BTreeSet KeyName) (stays : (key : KeyName) → Has old key → Has new key) where
  fewer : (edges : List Edge) → unknown edges new ≤ unknown edges old
  fewer [] = omega arith
  fewer (edge ∷ edges) =
      go (contains names.cmp old edge.to) (contains names.cmp new edge.to) (stays edge.to) (fewer edges)
    where
      go : (a b : Bool) → (a ≡ true → b ≡ true) → unknown edges new ≤ unknown edges old →
          cond b 0 1 + unknown edges new ≤ cond a 0 1 + unknown edges old
      go true true up rest = omega arith
      go true false up rest = absurd (true≢false (sym (up refl)))
      go false true up rest = omega arith
      go false false up rest = omega arith

  fewer_by_one : (edges : List Edge) (one : Edge) (k : ℕ) → k < length edges → get_or edges k one ≡ one →
      contains names.cmp old one.to ≡ false → Has new one.to → unknown edges new < unknown edges old
  fewer_by_one [] one k low at was is = absurd (omega (arith, low))
  fewer_by_one (edge ∷ edges) one zero low at was is =
      go (contains names.cmp old edge.to) (contains names.cmp new edge.to)
      (ap (λ (e : Edge). contains names.cmp old e.to) at ∙ was)
      (ap (λ (e : Edge). contains names.cmp new e.to) at ∙ is) (fewer edges)
    where
      go : (a b : Bool) → a ≡ false → b ≡ true → unknown edges new ≤ unknown edges old →
          cond b 0 1 + unknown edges new < cond a 0 1 + unknown edges old
      go true b a_is b_is rest = absurd (true≢false a_is)
      go false true a_is b_is rest = omega arith
      go false false a_is b_is rest = absurd (true≢false (sym b_is))
  fewer_by_one (edge ∷ edges) one (suc k) low at was is =
      go (contains names.cmp old edge.to) (contains names.cmp new edge.to) (stays edge.to)
      (fewer_by_one edges one k (omega (arith, low)) at was is)
    where
      go : (a b : Bool) → (a ≡ true → b ≡ true) → unknown edges new < unknown edges old →
          cond b 0 1 + unknown edges new < cond a 0 1 + unknown edges old
      go true true up rest = omega arith
      go true false up rest = absurd (true≢false (sym (up refl)))
      go false true up rest = omega arith
      go false false up rest = omega arith

-- each known key is reached from `start`. If the last pass found no new key, each reached key is known
pub record ClosesUp (edges : List Edge) (start : List KeyName) (known : BTreeSet KeyName) (more : Bool) : Type 0 where
  pub begins : (key : KeyName) → Contains start key → Has known key
  pub reached : (key : KeyName) → Has known key → IsReached edges start key
  pub closed : more ≡ false → (edge : Edge) → Contains edges edge → Has known edge.from → Has known edge.to

module _ (edges : List Edge) (start : List KeyName) where
  pub set_out : (known : BTreeSet KeyName) → ((key : KeyName) → Has known key ↔ Contains start key) →
      ClosesUp edges start known true
  set_out known is = record {
    begins = λ key has. (is key).1 has;
    reached = λ key has. first ((is key).0 has);
    closed = λ e. absurd (true≢false e);
  }

  module _ (old new : BTreeSet KeyName) (more : Bool) (passed : HasPassed edges old new more) where
    pub one_pass : ClosesUp edges start old true → ClosesUp edges start new more
    one_pass so_far = record {
      begins = λ key has. passed.stays key (so_far.begins key has);
      reached = passed.reached start so_far.reached;
      closed = passed.closed;
    }

    pub pass_smaller : unknown edges new + cond more 1 0 < unknown edges old + 1
    pass_smaller = go more passed.some
      where
        go : (b : Bool) → (b ≡ true →
            (edge : Edge) × Contains edges edge × (contains names.cmp old edge.to ≡ false) × Has new edge.to) →
            unknown edges new + cond b 1 0 < unknown edges old + 1
        go true some =
            let it = some refl in
            let less : unknown edges new < unknown edges old =
            fewer_by_one old new passed.stays edges it.0 it.1.0 it.1.1 it.1.2 it.2 it.3 in omega arith
        go false some = let le = fewer old new passed.stays edges in omega arith

  module _ (known : BTreeSet KeyName) (closed : ClosesUp edges start known false) where
    all_known : {key : KeyName} → IsReached edges start key → Has known key
    all_known (first has) = closed.begins _ has
    all_known (along {from} {to} before has) =
        closed.closed refl (record { from = from; to = to }) has (all_known before)

    pub closed_up : (key : KeyName) → Has known key ↔ IsReached edges start key
    closed_up key = (closed.reached key, all_known)

-- ---- the set that is made of a list of keys

module _ (q : KeyName) where
  in_list : (keys : List KeyName) → IsTrue (list_any (λ k. is_at (names.cmp k) q) keys) → Contains keys q
  in_list [] e = absurd (true≢false (sym e))
  in_list (k ∷ keys) e = go (is_at (names.cmp k) q) refl (in_list keys) e
    where
      go : (b : Bool) → is_at (names.cmp k) q ≡ b →
          (IsTrue (list_any (λ k. is_at (names.cmp k) q) keys) → Contains keys q) →
          (b || list_any (λ k. is_at (names.cmp k) q) keys) ≡ true → Contains (k ∷ keys) q
      go true same later any = (0, omega arith, found_name k q same)
      go false other later any = let rest = later any in (suc rest.0, (let low = rest.1 in omega arith), rest.2)

  itself : is_at (names.cmp q) q ≡ true
  itself = (Equal-is (names.cmp q q)).1 (tied_itself total-law q)

  from_list : (keys : List KeyName) (n : ℕ) → n < length keys → get_or keys n q ≡ q →
      IsTrue (list_any (λ k. is_at (names.cmp k) q) keys)
  from_list [] n low at = absurd (omega (arith, low))
  from_list (k ∷ keys) zero low at = rw (ap (λ (x : KeyName). is_at (names.cmp x) q) at ∙ itself) refl
  from_list (k ∷ keys) (suc n) low at = go (is_at (names.cmp k) q) (from_list keys n (omega (arith, low)) at)
    where
      go : (b : Bool) → IsTrue (list_any (λ k. is_at (names.cmp k) q) keys) →
          IsTrue (b || list_any (λ k. is_at (names.cmp k) q) keys)
      go true any = refl
      go false any = any

  pub listed : (keys : List KeyName) →
      IsTrue (list_any (λ k. is_at (names.cmp k) q) keys) ↔ Contains keys q
  listed keys = (in_list keys, λ has. from_list keys has.0 has.1 has.2)

  pub one_more : (keys : List KeyName) (i : ℕ) (d : KeyName) (old new : BTreeSet KeyName) → i < length keys →
      Updates names.cmp old new (get_or keys i d) true →
      contains names.cmp old q ≡ list_any (λ k. is_at (names.cmp k) q) (take i keys) →
      contains names.cmp new q ≡ list_any (λ k. is_at (names.cmp k) q) (take (i + 1) keys)
  one_more keys i d old new low updates before =
      updates.0 q
      ∙ either (is_at (names.cmp (get_or keys i d)) q) (contains names.cmp old q)
      ∙ (λ j. before j || is_at (names.cmp (get_or keys i d)) q)
      ∙ sym (list_any_more (λ k. is_at (names.cmp k) q) keys i d low)
    where
      either : (a b : Bool) → cond a true b ≡ (b || a)
      either true true = refl
      either true false = refl
      either false true = refl
      either false false = refl
