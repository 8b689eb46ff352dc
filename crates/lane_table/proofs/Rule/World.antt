-- A step on one lane keeps the rule of the whole table. In a view's part of another lane only the known list, `owes`
-- and `raised` may change.
use Rattle.std.proofs.Common.{◌≡◌, ℕ, ◌+◌, ◌*◌, ◌-◌, ◌^◌, ◌<◌, ◌≤◌, ◌≢◌, cond, eqb, eq-eqb, ne_eqb, List, length, get_or, set, sym, refl, ap, ◌∙◌, subst, ⊎_elim, arith, Option}
use Rattle.std.specs.Prelude.{All}
use Rattle.std.proofs.lemmas.List.{get_or-set_other, set-get_or, length-set, map-set}
use Rattle.std.specs.List.{sum_by}
use mathlib.Core.Option.{some, none, some-injective}
use mathlib.Core.Option as maybe
use mathlib.Core.Logic.{dite}
use native.Mathlib.Decide.{ℕ_discrete}
use lib.ListN.{get_elem?}
use Rattle.atomic_table.specs.Table.{Act, Valid, carried_after, stepped}
use Rattle.atomic_table.proofs.Lists.{at_set, set_here, set_else, set_again, at_map}
use Rattle.lane_table.specs.declared.view.Visit.{Visit}
use Rattle.lane_table.specs.declared.view.LaneView.{LaneView}
use Rattle.lane_table.specs.declared.view.View.{View}
use Rattle.lane_table.specs.declared.view.Content.{Content}
use Rattle.lane_table.specs.Meaning.{LawfulLane, parent}
use Rattle.lane_table.specs.References.{Closed, Pointed, LawfulLists}
use Rattle.lane_table.specs.WorldRule.{Begins, Consistent, Carries, Home, LaneOk, Owed, Owes, AllPending, RaisedOk, St, ViewOk, WorldRule, at, column, known_of, raises, weight, ticket_word, serving_word}
use Rattle.lane_table.specs.Steps.{Seated}
use Rattle.lane_table.proofs.Lists.Lists.{at_below, sum_at_set}
use Rattle.lane_table.proofs.Lists.VisitLists.{begins_trans}
use Rattle.lane_table.proofs.Lists.LawfulLists.{lawful_begun}
use Rattle.lane_table.proofs.Rule.Naming.{pending_views, half_known, parent_within}
use Rattle.lane_table.proofs.Rule.OneLane as lane

-- `f` with the value `x` at `i`
abbrev pub pick : {A : Type 0} → ℕ → A → (ℕ → A) → ℕ → A
pick i x f j = cond (eqb j i) x (f j)

pub pick_here : {A : Type 0} (i : ℕ) (x : A) (f : ℕ → A) → pick i x f i ≡ x
pick_here i x f = ap (λ b. cond b x (f i)) (eq-eqb i i refl)

pub pick_else : {A : Type 0} (i j : ℕ) (x : A) (f : ℕ → A) → j ≢ i → pick i x f j ≡ f j
pick_else i j x f ne = ap (λ b. cond b x (f j)) (ne_eqb j i ne)

pub pick_same : {A : Type 0} (i j : ℕ) (f : ℕ → A) → pick i (f i) f j ≡ f j
pick_same i j f = dite (ℕ_discrete j i) (λ e. ap (λ (k : ℕ). pick i (f i) f k) e ∙ pick_here i (f i) f ∙ ap f (sym e))
    (λ ne. pick_else i j (f i) f ne)

-- in another lane's part of a view, the known list, `owes` and `raised` may change. The known list stays a prefix of
-- the log, and if it was the whole log, it is still the whole log
pub record Recasts (log : List Visit) (a b : LaneView) : Type 0 where
  pub stage : b.stage ≡ a.stage
  pub made : b.made ≡ a.made
  pub places : b.places ≡ a.places
  pub tickets : b.tickets ≡ a.tickets
  pub loaded : b.loaded ≡ a.loaded
  pub found : b.found ≡ a.found
  pub heard : b.heard ≡ a.heard
  pub begins : Begins b.known log
  pub whole : a.known ≡ log → b.known ≡ log

-- if a part is unchanged, `Recasts` holds
pub same_at : (log : List Visit) (a b : LaneView) → b ≡ a → Begins a.known log → Recasts log a b
same_at log a b e h = record {
  stage = ap (λ (x : LaneView). x.stage) e;
  made = ap (λ (x : LaneView). x.made) e;
  places = ap (λ (x : LaneView). x.places) e;
  tickets = ap (λ (x : LaneView). x.tickets) e;
  loaded = ap (λ (x : LaneView). x.loaded) e;
  found = ap (λ (x : LaneView). x.found) e;
  heard = ap (λ (x : LaneView). x.heard) e;
  begins = subst (λ (x : LaneView). Begins x.known log) (sym e) h;
  whole = λ w. ap (λ (x : LaneView). x.known) e ∙ w;
}

-- the rule of the table holds, and pass number `id` has the view `v`
pub record Here (first : ℕ) (s : St) (id : ℕ) (v : View) : Type 0 where
  pub rule : WorldRule first s
  pub is : get_elem? s.views id ≡ some v
  pub share : 0 < v.share

abbrev pub Goes : ℕ → St → ℕ → ℕ → Seated → (ℕ → Seated → Type 0) → ℕ → Type 0
Goes first s k id me then y = (w : View) × (a : Act (Option Content)) × Valid s.homes me.1 a
    × WorldRule first (stepped s k y id me.1 w a) × then (get_or s.words k 0) (w, carried_after me.1 a)

module _ {first : ℕ} {s : St} {id : ℕ} {v : View} (h : Here first s id v) where
  abbrev pub logs : ℕ → List Visit
  logs = h.rule.logs

  abbrev pub count : ℕ
  count = length s.homes

  abbrev pub ticket_at : ℕ → ℕ
  ticket_at i = get_or s.words (ticket_word i) 0

  abbrev pub serving_at : ℕ → ℕ
  serving_at i = get_or s.words (serving_word i) 0

  pub sized : (length v.lanes ≡ count) × (v.first ≡ first)
  sized = (h.rule.views id v h.is).sized h.share

  pub here : (j : ℕ) → get_elem? (column j s.views) id ≡ some (at j v)
  here j = at_map (at j) s.views id v h.is

  pub begun : (j : ℕ) → j < count → Begins (known_of v j) (logs j)
  begun j below = ((h.rule.lane j below).passes id (at j v) (here j)).begins

  -- the rule holds after a step that leaves the words, the slots (`homes`) and the view as they are
  pub stays : (k : ℕ) → WorldRule first record {
    words = set s.words k (get_or s.words k 0);
    homes = s.homes;
    views = set s.views id v;
  }
  stays k = let p = set-get_or s.words k 0 in let q = set_again s.views id v h.is in
      let path : s ≡ record { words = set s.words k (get_or s.words k 0); homes = s.homes; views = set s.views id v } =
      λ i. record { words = sym p i; homes = s.homes; views = sym q i } in subst (WorldRule first) path h.rule

  -- a view that knows prefixes of the lists is consistent if these prefixes are closed
  pub consistent : (logs' : ℕ → List Visit) (views' : List View) (w : View) → LawfulLists count logs' →
      AllPending count logs' views' → length w.lanes ≡ count
      → ((j : ℕ) → j < count → Begins (known_of w j) (logs' j)) → Closed count (known_of w) → Consistent w
  consistent logs' views' w lawful pending long begins closed = let two = h.rule.two in record {
    closed = subst (λ (z : ℕ). Closed z (known_of w)) (sym long) closed;
    lawful = subst (λ (z : ℕ). LawfulLists z (known_of w)) (sym long)
        (λ j below. lawful_begun count j (known_of w j) (logs' j) (begins j below) (lawful j below));
    half = λ l lo hi. let low : l < count = omega arith in
        half_known l (logs' (parent l)) (logs' l) (known_of w (parent l)) (known_of w l) views' (pending l lo low)
        (begins (parent l) (parent_within l count two)) (begins l low);
  }

  -- if `w` has the same known lists as `v`, `w` is consistent
  pub consistent_as : (w : View) → ((j : ℕ) → known_of w j ≡ known_of v j) → length w.lanes ≡ length v.lanes →
      Consistent w
  consistent_as w same long = consistent logs s.views w h.rule.lawful h.rule.pending (long ∙ sized.0)
      (λ j below. subst (λ (l : List Visit). Begins l (logs j)) (sym (same j)) (begun j below))
      (λ l lo hi. subst (λ (z : List Visit × List Visit). Pointed l z.0 z.1)
      (λ k. (sym (same (parent l)) k, sym (same l) k)) ((h.rule.views id v h.is).closed l lo hi))

  -- if a step does not change `owes` of a view, an answer that some view owes is still owed
  pub owes_kept : (l : ℕ) (w : View) → (at l w).owes ≡ (at l v).owes → (p : ℕ) → Owes l p s.views →
      Owes l p (set s.views id w)
  owes_kept l w same p o = dite (ℕ_discrete o.0 id)
      (λ e. let u : o.1 ≡ v = some-injective o.1 v (sym o.2 ∙ ap (λ (k : ℕ). get_elem? s.views k) e ∙ h.is) in (
        id,
        w,
        set_here s.views id w (at_below s.views id v h.is),
        same ∙ ap (λ (z : View). (at l z).owes) (sym u)
            ∙ o.3,
      ))
      (λ ne. (o.0, o.1, set_else s.views id o.0 w ne ∙ o.2, o.3))

  -- a step that stores `y` in word `k`: the word belongs to no other lane, and the generation does not fall
  pub record WordStep (i k y : ℕ) : Type 0 where
    pub others : (j : ℕ) → j ≢ i → (ticket_word j ≢ k) × (serving_word j ≢ k)
    pub rises : get_or s.words 0 0 ≤ get_or (set s.words k y) 0 0
    pub small : get_or (set s.words k y) 0 0 < 2 ^ 63

  -- a store in a word other than word 0 does not change the generation
  pub unraised : (k y : ℕ) → ¬ (0 ≡ k) → get_or (set s.words k y) 0 0 ≡ get_or s.words 0 0
  unraised k y ne = get_or-set_other s.words k 0 y 0 ne

  lane_step : (i k y : ℕ) → ((j : ℕ) → j ≢ i → (ticket_word j ≢ k) × (serving_word j ≢ k)) → ¬ (0 ≡ k) → WordStep i k y
  lane_step i k y others ne = let e = unraised k y ne in let g = h.rule.small in
      record { others = others; rises = omega arith; small = omega arith }

  pub ticket_step : (i y : ℕ) → WordStep i (ticket_word i) y
  ticket_step i y = lane_step i (ticket_word i) y (λ j ne. ((λ e. ne (omega arith)), (λ e. omega arith)))
      (λ e. omega arith)

  pub serving_step : (i y : ℕ) → WordStep i (serving_word i) y
  serving_step i y = lane_step i (serving_word i) y (λ j ne. ((λ e. omega arith), (λ e. ne (omega arith))))
      (λ e. omega arith)

  -- the state after a step on the lane `i`, which stores `y` in word `k` and changes the view to `w`
  pub record Moved (i y k : ℕ) (w : View) (a' : LaneView) (homes' : List (maybe.Option (Option Content)))
      (log' : List Visit) (owner' : ℕ → ℕ) (lists' : ℕ → List Visit) : Type 0 where
    pub word : WordStep i k y
    pub long : length homes' ≡ count
    pub apart : (j : ℕ) → j ≢ i → get_elem? homes' j ≡ get_elem? s.homes j
    pub lanes : length w.lanes ≡ length v.lanes
    pub here : at i w ≡ a'
    pub others : (j : ℕ) → j < count → j ≢ i → Recasts (logs j) (at j v) (at j w)
    pub share : w.share ≡ v.share
    pub halvings : w.halvings ≡ v.halvings
    pub firsts : w.first ≡ v.first
    pub stamped : All (λ n. n ≤ w.stamp) w.stamps
    pub more : Begins (logs i) log'
    pub lane : LaneOk i first (get_or (set s.words k y) (ticket_word i) 0)
        (get_or (set s.words k y) (serving_word i) 0) (get_elem? homes' i) (set (column i s.views) id a') log' owner'
    pub lawful : LawfulLane count i log'
    pub carries : Carries count (pick i log' logs) i lists'
    pub closed : Closed count (known_of w)
    pub owed : Owed count w
    pub pending : AllPending count (pick i log' logs) (set s.views id w)
    pub generation : get_or (set s.words k y) 0 0 + (raises (logs 1) + (at 1 v).raised) ≡ get_or s.words 0
        0 + (raises (pick i log' logs 1) + (at 1 w).raised)
    pub seen : w.seen ≤ get_or (set s.words k y) 0 0
    pub raised : RaisedOk (at 1 w)

  carries_kept : (i : ℕ) (log' : List Visit) → Begins (logs i) log' → (j : ℕ) → j < count → j ≢ i →
      Carries count (pick i log' logs) j (h.rule.carried j)
  carries_kept i log' more j below ne = let c = h.rule.carries j below in let P =
      λ (m : ℕ) (l : List Visit). Begins (h.rule.carried j m) l in record {
        begins = λ m low. dite (ℕ_discrete m i)
            (λ e. subst (P m) (sym (ap (pick i log' logs) e ∙ pick_here i log' logs))
            (begins_trans (h.rule.carried j m) (logs i) log' (subst (λ (z : ℕ). P m (logs z)) e (c.begins m low)) more))
            (λ other. subst (P m) (sym (pick_else i m log' logs other)) (c.begins m low));
        own = c.own ∙ sym (pick_else i j log' logs ne);
        closed = c.closed;
      }

  -- if a step does not change the lists of visits, each lane's value carries the same lists from holder to holder as
  -- before
  pub carries_same : (i : ℕ) → i < count → Carries count (pick i (logs i) logs) i (h.rule.carried i)
  carries_same i near = let c = h.rule.carries i near in record {
    begins = λ m low. subst (Begins (h.rule.carried i m)) (sym (pick_same i m logs)) (c.begins m low);
    own = c.own ∙ sym (pick_same i i logs);
    closed = c.closed;
  }

  pub pending_same : (i : ℕ) (w : View) → ((l : ℕ) → l < count → (at l w).owes ≡ (at l v).owes) →
      AllPending count (pick i (logs i) logs) (set s.views id w)
  pending_same i w same l lo hi = rw (pick_same i (parent l) logs, pick_same i l logs)
      (pending_views l (logs (parent l)) (logs l) s.views (set s.views id w) (h.rule.pending l lo hi)
      (owes_kept l w (same l hi)))

  module _ {i y k : ℕ} {w : View} {a' : LaneView} {homes' : List (maybe.Option (Option Content))} {log' : List Visit}
      {owner' : ℕ → ℕ} {lists' : ℕ → List Visit} (m : Moved i y k w a' homes' log' owner' lists') where
    abbrev words' : List ℕ
    words' = set s.words k y

    abbrev views' : List View
    views' = set s.views id w

    -- each word except word `k` is unchanged
    other_word : (n : ℕ) → ¬ (n ≡ k) → get_or words' n 0 ≡ get_or s.words n 0
    other_word n ne = get_or-set_other s.words k n y 0 ne

    moved_lane : (j : ℕ) → j < count → LaneOk j first (get_or words' (ticket_word j) 0)
        (get_or words' (serving_word j) 0) (get_elem? homes' j) (column j views') (pick i log' logs j)
        (pick i owner' h.rule.owners j)
    moved_lane j below = dite (ℕ_discrete j i)
        (λ e. let P : ℕ → List LaneView → List Visit → (ℕ → ℕ) →
        Type 0 = λ j. LaneOk j first (get_or words' (ticket_word j) 0) (get_or words' (serving_word j) 0)
        (get_elem? homes' j) in
        let col : column i views' ≡ set (column i s.views) id a' =
        map-set (at i) s.views id w ∙ ap (set (column i s.views) id) m.here in
        subst (λ (z : ℕ). P z (column z views') (pick i log' logs z) (pick i owner' h.rule.owners z)) (sym e)
        (rw (col, pick_here i log' logs, pick_here i owner' h.rule.owners) m.lane))
        (λ ne. let o = m.others j below ne in let ok = h.rule.lane j below in
        let was = ok.passes id (at j v) (here j) in
        let cast = lane.recast ok id (here j) (at j w) o.stage o.made o.places o.tickets
        (let f = o.loaded in let g = was.loaded in omega arith) (let f = o.found in let g = was.found in omega arith)
        o.heard o.begins o.whole in
        let w₁ = other_word (ticket_word j) (m.word.others j ne).0 in let w₂ =
        other_word (serving_word j) (m.word.others j ne).1 in
        let colj = map-set (at j) s.views id w in
        let R : ℕ × ℕ × Home × List LaneView × List Visit × (ℕ → ℕ) → Type 0 =
        λ z. LaneOk j first z.0 z.1 z.2 z.3 z.4 z.5 in
        subst R (λ t. (
          sym w₁ t,
          sym w₂ t,
          sym (m.apart j ne) t,
          sym colj t,
          sym (pick_else i j log' logs ne) t,
          sym (pick_else i j owner' h.rule.owners ne) t,
        )) cast)

    moved_view : (j : ℕ) (u : View) → get_elem? views' j ≡ some u → ViewOk first (length homes') h.rule.top u
    moved_view j u e = subst (λ (z : ℕ). ViewOk first z h.rule.top u) (sym m.long) (⊎_elim
        (λ (t : (j ≡ id) × (w ≡ u)). let o = h.rule.views id v h.is in subst (ViewOk first count h.rule.top) t.1
        record {
          sized = λ _. (m.lanes ∙ sized.0, m.firsts ∙ sized.1);
          spent = λ none'. (let q = m.share in let g = h.share in absurd (omega arith));
          below = (let q = m.halvings in let g = o.below in omega arith);
          stamped = m.stamped;
          closed = m.closed;
          owed = m.owed;
        })
        (λ (t : (j ≢ id) × (get_elem? s.views j ≡ some u)). h.rule.views j u t.1) (at_set s.views id j w u e))

    pub moved : WorldRule first record { words = words'; homes = homes'; views = views' }
    moved = let two = h.rule.two in let long = m.long in record {
      wide = (let w = h.rule.wide in let l = length-set s.words k y in omega arith);
      two = omega arith;
      logs = pick i log' logs;
      owners = pick i owner' h.rule.owners;
      lane = λ j below. moved_lane j (omega arith);
      lawful = subst (λ (z : ℕ). LawfulLists z (pick i log' logs)) (sym long) (λ j below. dite (ℕ_discrete j i)
          (λ e. subst (λ (z : ℕ). LawfulLane count z (pick i log' logs z)) (sym e)
          (rw (pick_here i log' logs) m.lawful))
          (λ ne. rw (pick_else i j log' logs ne) (h.rule.lawful j below)));
      carried = pick i lists' h.rule.carried;
      carries = subst (λ (z : ℕ). (j : ℕ) → j < z → Carries z (pick i log' logs) j (pick i lists' h.rule.carried j))
          (sym long) (λ j below. dite (ℕ_discrete j i)
          (λ e. subst (λ (z : ℕ). Carries count (pick i log' logs) z (pick i lists' h.rule.carried z)) (sym e)
          (rw (pick_here i lists' h.rule.carried) m.carries))
          (λ ne. rw (pick_else i j lists' h.rule.carried ne) (carries_kept i log' m.more j below ne)));
      pending = subst (λ (z : ℕ). AllPending z (pick i log' logs) views') (sym long) m.pending;
      generation = (let t = sum_at_set (λ (a : LaneView). a.raised) (column 1 s.views) id (at 1 v) (at 1 w) (here 1) in
          let g = h.rule.generation in let r = m.generation in
          let col₁ = ap (sum_by (λ (a : LaneView). a.raised)) (map-set (at 1) s.views id w) in omega arith);
      small = m.word.small;
      seen = λ j u e. ⊎_elim
          (λ (t : (j ≡ id) × (w ≡ u)). subst (λ (z : View). (z.seen ≤ get_or words' 0 0) × RaisedOk (at 1 z)) t.1
          (m.seen, m.raised))
          (λ (t : (j ≢ id) × (get_elem? s.views j ≡ some u)). let o = h.rule.seen j u t.1 in
          ((let q = m.word.rises in let r = o.0 in omega arith), o.1)) (at_set s.views id j w u e);
      top = h.rule.top;
      views = moved_view;
      whole = (let t = sum_at_set (weight h.rule.top) s.views id v w h.is in
          let e : weight h.rule.top w ≡ weight h.rule.top v = λ q. m.share q * 2 ^ (h.rule.top - m.halvings q) in
          let a : ℕ = sum_by (weight h.rule.top) views' in let b : ℕ = sum_by (weight h.rule.top) s.views in
          let x : ℕ = weight h.rule.top w in let x' : ℕ = weight h.rule.top v in
          let e' : x ≡ x' = e in let t' : a + x' ≡ b + x = t in let g : a ≡ b = omega arith in g ∙ h.rule.whole);
    }
