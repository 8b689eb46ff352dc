-- Each kind of step keeps the rule of one lane. These proofs never unfold how the value represents the list.
use Rattle.std.proofs.Common.{◌≡◌, ℕ, ◌+◌, ◌<◌, ◌≤◌, ◌≢◌, Bool, true, false, cond, eqb, eq-eqb, ne_eqb, List, [], ◌∷◌, ◌++◌, length, set, sym, refl, ap, ◌∙◌, subst, inl, inr, ⊎_elim, arith, Some, ltb, ltb-true}
use Rattle.std.proofs.lemmas.List.Sums.{sum_by_push, sum_by-append}
use mathlib.Core.Option.{some, none, some-injective}
use mathlib.Core.Logic.{dite}
use native.Mathlib.Decide.{ℕ_discrete}
use lib.ListN.{get_elem?}
use Rattle.atomic_table.proofs.Lists.{at_set, set_here, set_else, at_longer, at_snoc}
use Rattle.lane_table.specs.declared.view.Visit.{Visit}
use Rattle.lane_table.specs.declared.view.LaneView.{LaneView}
use Rattle.lane_table.specs.declared.view.Content.{Content}
use Rattle.lane_table.specs.declared.view.TicketStage.{TicketStage}
use Rattle.lane_table.specs.declared.view.TicketStage.TheVariants.{Away, Queued, Holding}
use Rattle.lane_table.specs.WorldRule.{Begins, AllBegin, Rising, Replays, has_ticket, blank, Home, Conforms, PassOk, IsHomeOrHeld, LaneOk, KnownWhole, times, once_below}
use Rattle.lane_table.specs.Steps.{finding, waiting, holder, recorded, merged, longer}
use Rattle.lane_table.proofs.Lists.Lists.{at_below, sum_at_set}
use Rattle.lane_table.proofs.Lists.VisitLists.{begins_trans, begins_length, begins_nil, begins_refl, longer_all, all_trans, all_heard}

-- a column has the part of one lane in each view. If one part changes, a property that holds for the new part and all
-- others holds for each part
passes_set : (P : ℕ → LaneView → Type 0) (col : List LaneView) (id : ℕ) (a' : LaneView) →
    ((j : ℕ) (a : LaneView) → j ≢ id → get_elem? col j ≡ some a → P j a) → P id a'
    → (j : ℕ) (a : LaneView) → get_elem? (set col id a') j ≡ some a → P j a
passes_set P col id a' others mine j a e =
    ⊎_elim (λ (t : (j ≡ id) × (a' ≡ a)). subst (λ (z : ℕ × LaneView). P z.0 z.1) (λ k. (sym t.0 k, t.1 k)) mine)
    (λ (t : (j ≢ id) × (get_elem? col j ≡ some a)). others j a t.0 t.1) (at_set col id j a' a e)

-- if some part has a property, some part still has it after a change that preserves the property
some_set : (P : LaneView → Type 0) (col : List LaneView) (id : ℕ) (a a' : LaneView) → get_elem? col id ≡ some a →
    (P a → P a')
    → (j : ℕ) × (b : LaneView) × (get_elem? col j ≡ some b) × P b →
    (j : ℕ) × (b : LaneView) × (get_elem? (set col id a') j ≡ some b) × P b
some_set P col id a a' at same x = dite (ℕ_discrete x.0 id)
    (λ hit. let is : x.1 ≡ a = some-injective x.1 a (sym x.2 ∙ ap (λ (k : ℕ). get_elem? col k) hit ∙ at) in
    (id, a', set_here col id a' (at_below col id a at), same (subst P is x.3)))
    (λ miss. (x.0, x.1, set_else col id x.0 a' miss ∙ x.2, x.3))

known_set : (col : List LaneView) (log : List Visit) (id : ℕ) (a a' : LaneView) → get_elem? col id ≡ some a →
    (a.known ≡ log → a'.known ≡ log) → KnownWhole col log → KnownWhole (set col id a') log
known_set col log id a a' at same x = some_set (λ (z : LaneView). z.known ≡ log) col id a a' at same x

whereabouts_set : (lane first serving : ℕ) (home : Home) (col : List LaneView) (log : List Visit) (id : ℕ)
    (a a' : LaneView) → get_elem? col id ≡ some a → (a.stage ≡ Holding serving → a'.stage ≡ Holding serving)
    → IsHomeOrHeld lane first serving home col log → IsHomeOrHeld lane first serving home (set col id a') log
whereabouts_set lane first serving home col log id a a' at same (inl x) = inl x
whereabouts_set lane first serving home col log id a a' at same (inr x) =
    inr (some_set (λ (z : LaneView). z.stage ≡ Holding serving) col id a a' at same x)

module _ {lane first ticket serving : ℕ} {home : Home} {col : List LaneView} {log : List Visit} {owner : ℕ → ℕ}
    (ok : LaneOk lane first ticket serving home col log owner) (id : ℕ) {a : LaneView} (at : get_elem? col id ≡ some a)
  where
    mine : PassOk ticket serving owner home log id a
    mine = ok.passes id a at

    conforms_here : (g : TicketStage) → a.stage ≡ g → Conforms ticket serving owner home log id a.known g
    conforms_here g e = subst (Conforms ticket serving owner home log id a.known) e mine.conforms

    known_conforms : (known : List Visit) (g : TicketStage) → (a.known ≡ log → known ≡ log) →
        Conforms ticket serving owner home log id a.known g → Conforms ticket serving owner home log id known g
    known_conforms known Away h k = tt
    known_conforms known (Queued t) h k = k
    known_conforms known (Holding t) h k = (k.0, k.1, k.2, h k.3, k.4)

    -- if a pass stays in its stage and learns more of the list or reads newer words, the lane's rule still holds
    pub recast : (b : LaneView) → b.stage ≡ a.stage → b.made ≡ a.made → b.places ≡ a.places → b.tickets ≡ a.tickets →
        b.loaded ≤ serving → b.found ≤ ticket → b.heard ≡ a.heard → Begins b.known log → (a.known ≡ log → b.known ≡ log)
        → LaneOk lane first ticket serving home (set col id b) log owner
    recast b stage made' places' tickets' loaded' found' heard' begins whole = record {
      ordered = ok.ordered;
      counted = let s = sum_at_set (λ (x : LaneView). has_ticket x.stage) col id a b at in
          let q : has_ticket b.stage ≡ has_ticket a.stage = ap has_ticket stage in let o = ok.counted in omega arith;
      drawn = let s = sum_at_set (λ (x : LaneView). x.tickets) col id a b at in let o = ok.drawn in omega arith;
      passes = passes_set (PassOk ticket serving owner home log) col id b (λ j x _ e. ok.passes j x e) record {
        begins = begins;
        heard = subst (λ (l : List (List Visit)). AllBegin l log) (sym heard') mine.heard;
        conforms = subst (Conforms ticket serving owner home log id b.known) (sym stage)
            (known_conforms b.known a.stage whole mine.conforms);
        loaded = loaded';
        found = found';
      };
      whereabouts = whereabouts_set lane first serving home col log id a b at (λ h. stage ∙ h) ok.whereabouts;
      made = let s = sum_at_set (λ (x : LaneView). x.made) col id a b at in let o = ok.made in omega arith;
      placed = λ p. let s = sum_at_set (λ (x : LaneView). times p x.places) col id a b at in let o = ok.placed p in
          let e = ap (times p) places' in omega arith;
      known = known_set col log id a b at whole ok.known;
      rising = ok.rising;
    }

    drawn_by : ℕ → ℕ
    drawn_by t = cond (eqb t ticket) id (owner t)

    drawn_now : drawn_by ticket ≡ id
    unfolding drawn_by
    drawn_now = ap (λ b. cond b id (owner ticket)) (eq-eqb ticket ticket refl)

    drawn_older : (t : ℕ) → t < ticket → drawn_by t ≡ owner t
    unfolding drawn_by
    drawn_older t h = ap (λ b. cond b id (owner t)) (ne_eqb t ticket (λ e. omega arith))

    drawn_conforms : (j : ℕ) (known : List Visit) (g : TicketStage) → Conforms ticket serving owner home log j known g →
        Conforms (ticket + 1) serving drawn_by home log j known g
    drawn_conforms j known Away h = tt
    drawn_conforms j known (Queued t) h = (h.0, omega arith, drawn_older t h.1 ∙ h.2)
    drawn_conforms j known (Holding t) h = (h.0, omega arith, drawn_older t h.1 ∙ h.2, h.3, h.4)

    -- a draw of a ticket keeps the lane's rule
    pub draws : (n : ℕ) → a.stage ≡ Away → n ≤ ticket →
        (owner' : ℕ → ℕ) × LaneOk lane first (ticket + 1) serving home
        (set col id (waiting ticket (finding n a))) log owner'
    draws n away low = let a' : LaneView = waiting ticket (finding n a) in (
      drawn_by,
      record {
        ordered = let o = ok.ordered in omega arith;
        counted = let s = sum_at_set (λ (x : LaneView). has_ticket x.stage) col id a a' at in
            let q : has_ticket a.stage ≡ 0 = ap has_ticket away in let o = ok.counted in omega arith;
        drawn = let s = sum_at_set (λ (x : LaneView). x.tickets) col id a a' at in let o = ok.drawn in omega arith;
        passes = passes_set (PassOk (ticket + 1) serving drawn_by home log) col id a'
            (λ j b _ e. let o = ok.passes j b e in record {
              begins = o.begins;
              heard = o.heard;
              conforms = drawn_conforms j b.known b.stage o.conforms;
              loaded = o.loaded;
              found = (let f = o.found in omega arith);
            })
            record {
              begins = mine.begins;
              heard = mine.heard;
              conforms = (ok.ordered, omega arith, drawn_now);
              loaded = mine.loaded;
              found = omega arith;
            };
        whereabouts = whereabouts_set lane first serving home col log id a a' at (λ h. absurd (cc (away, h)))
            ok.whereabouts;
        made = let s = sum_at_set (λ (x : LaneView). x.made) col id a a' at in let o = ok.made in omega arith;
        placed = λ p. let s = sum_at_set (λ (x : LaneView). times p x.places) col id a a' at in let o = ok.placed p in
            omega arith;
        known = known_set col log id a a' at (λ h. h) ok.known;
        rising = ok.rising;
      },
    )

    other_turn : (j : ℕ) (home' : Home) (known : List Visit) (g : TicketStage) → owner serving ≡ id → j ≢ id →
        Conforms ticket serving owner home log j known g → Conforms ticket serving owner home' log j known g
    other_turn j home' known Away own ne h = tt
    other_turn j home' known (Queued t) own ne h = h
    other_turn j home' known (Holding t) own ne h = absurd (ne (sym h.2 ∙ ap owner h.0 ∙ own))

    -- the pass's turn comes: the content is in the slot, and the lane's rule holds after the pass takes the slot
    abbrev Turned : Type 0
    Turned = (c : Content) × (home ≡ some (some (Some c))) × Replays lane first log c
        × LaneOk lane first ticket serving (some none) (set col id (holder log serving a)) log owner

    turned_at : a.stage ≡ Queued serving → IsHomeOrHeld lane first serving home col log → Turned
    turned_at waits (inl x) = let a' = holder log serving a in let stood = conforms_here (Queued serving) waits in (
      x.0,
      x.1,
      x.2,
      record {
        ordered = ok.ordered;
        counted = let s = sum_at_set (λ (x : LaneView). has_ticket x.stage) col id a a' at in
            let q : has_ticket a.stage ≡ 1 = ap has_ticket waits in let o = ok.counted in omega arith;
        drawn = let s = sum_at_set (λ (x : LaneView). x.tickets) col id a a' at in let o = ok.drawn in omega arith;
        passes = passes_set (PassOk ticket serving owner (some none) log) col id a'
            (λ j b ne e. let o = ok.passes j b e in record {
              begins = o.begins;
              heard = o.heard;
              conforms = other_turn j (some none) b.known b.stage stood.2 ne o.conforms;
              loaded = o.loaded;
              found = o.found;
            })
            record {
              begins = begins_refl log;
              heard = mine.heard;
              conforms = (refl, stood.1, stood.2, refl, refl);
              loaded = mine.loaded;
              found = mine.found;
            };
        whereabouts = inr (id, a', set_here col id a' (at_below col id a at), refl);
        made = let s = sum_at_set (λ (x : LaneView). x.made) col id a a' at in let o = ok.made in omega arith;
        placed = λ p. let s = sum_at_set (λ (x : LaneView). times p x.places) col id a a' at in let o = ok.placed p in
            omega arith;
        known = known_set col log id a a' at (λ _. refl) ok.known;
        rising = ok.rising;
      },
    )
    turned_at waits (inr x) = let stood = conforms_here (Queued serving) waits in
        let o = subst (Conforms ticket serving owner home log x.0 x.1.known) x.3 (ok.passes x.0 x.1 x.2).conforms in
        let same : x.0 ≡ id = sym o.2 ∙ stood.2 in let is : x.1 ≡ a =
        some-injective x.1 a (sym x.2 ∙ ap (λ (k : ℕ). get_elem? col k) same ∙ at) in
        let g : Queued serving ≡ Holding serving = sym waits ∙ ap (λ (z : LaneView). z.stage) (sym is) ∙ x.3 in
        absurd (cc g)

    pub turns : a.stage ≡ Queued serving → Turned
    turns waits = turned_at waits ok.whereabouts

    given_conforms : (t j : ℕ) (home' : Home) (log' known : List Visit) (g : TicketStage) → t ≡ serving → owner t ≡ id → j ≢ id →
        Conforms ticket serving owner home log j known g → Conforms ticket (t + 1) owner home' log' j known g
    given_conforms t j home' log' known Away is own ne h = tt
    given_conforms t j home' log' known (Queued u) is own ne h = let other : u ≢ serving =
        λ e. ne (sym h.2 ∙ ap owner (e ∙ sym is) ∙ own) in (omega arith, h.1, h.2)
    given_conforms t j home' log' known (Holding u) is own ne h = absurd (ne (sym h.2 ∙ ap owner (h.0 ∙ sym is) ∙ own))

    -- the pass that holds the lane has the served ticket, and knows the whole list
    pub holds_turn : (t : ℕ) → a.stage ≡ Holding t →
        (t ≡ serving) × (t < ticket) × (owner t ≡ id) × (a.known ≡ log) × (home ≡ some none)
    holds_turn t hold = conforms_here (Holding t) hold

    -- the lane's rule still holds after the value goes back and the next ticket is served
    pub gives : (t : ℕ) (log' : List Visit) (c : Content) (a' : LaneView) → a.stage ≡ Holding t → Begins log log' →
        a'.stage ≡ Away → a'.known ≡ log' → a'.tickets ≡ a.tickets → a'.loaded ≡ a.loaded → a'.found ≡ a.found → a'.heard ≡ a.heard
        → a'.made + length log ≡ a.made + length log' →
        ((p : ℕ) → times p a'.places + once_below p (length log) ≡ times p a.places + once_below p (length log')) →
        Rising first log' → Replays lane first log' c
        → LaneOk lane first ticket (t + 1) (some (some (Some c))) (set col id a') log' owner
    gives t log' c a' hold more away whole tickets' loaded' found' heard' count news rises plays = let stood =
        holds_turn t hold in let home' : Home = some (some (Some c)) in let lt = stood.1 in let is = stood.0 in record {
          ordered = omega arith;
          counted = let s = sum_at_set (λ (x : LaneView). has_ticket x.stage) col id a a' at in
              let q : has_ticket a.stage ≡ 1 = ap has_ticket hold in let q' : has_ticket a'.stage ≡ 0 = ap has_ticket away in
              let o = ok.counted in omega arith;
          drawn = let s = sum_at_set (λ (x : LaneView). x.tickets) col id a a' at in let o = ok.drawn in omega arith;
          passes = passes_set (PassOk ticket (t + 1) owner home' log') col id a'
              (λ j b ne e. let o = ok.passes j b e in record {
                begins = begins_trans b.known log log' o.begins more;
                heard = all_trans b.heard log log' o.heard more;
                conforms = given_conforms t j home' log' b.known b.stage is stood.2 ne o.conforms;
                loaded = (let f = o.loaded in omega arith);
                found = o.found;
              })
              record {
                begins = subst (λ (l : List Visit). Begins l log') (sym whole) (begins_refl log');
                heard = subst (λ (l : List (List Visit)). AllBegin l log') (sym heard')
                    (all_trans a.heard log log' mine.heard more);
                conforms = subst (Conforms ticket (t + 1) owner home' log' id a'.known) (sym away) tt;
                loaded = (let f = mine.loaded in omega arith);
                found = (let f = mine.found in omega arith);
              };
          whereabouts = inl (c, refl, plays);
          made = let s = sum_at_set (λ (x : LaneView). x.made) col id a a' at in let o = ok.made in omega arith;
          placed = λ p. let s = sum_at_set (λ (x : LaneView). times p x.places) col id a a' at in let o = ok.placed p in
              let q = news p in omega arith;
          known = (id, a', set_here col id a' (at_below col id a at), whole);
          rising = rises;
        }

    -- if a new pass with the same knowledge of the lane is added, the lane's rule still holds
    pub enters : LaneOk lane first ticket serving home (col ++ recorded a ∷ []) log owner
    enters = record {
      ordered = ok.ordered;
      counted = let s = sum_by_push (λ (x : LaneView). has_ticket x.stage) col (recorded a) in let o = ok.counted in
          omega arith;
      drawn = let s = sum_by_push (λ (x : LaneView). x.tickets) col (recorded a) in let o = ok.drawn in omega arith;
      passes = λ j b e. ⊎_elim (λ (h : get_elem? col j ≡ some b). ok.passes j b h)
          (λ (h : recorded a ≡ b). subst (PassOk ticket serving owner home log j) h
          record { begins = mine.begins; heard = mine.heard; conforms = tt; loaded = mine.loaded; found = mine.found })
          (at_snoc col (recorded a) b j e);
      whereabouts = ⊎_elim (λ (x : (c : Content) × (home ≡ some (some (Some c))) × Replays lane first log c). inl x)
          (λ (x : (j : ℕ) × (b : LaneView) × (get_elem? col j ≡ some b) × (b.stage ≡ Holding serving)). inr
          (x.0, x.1, at_longer col (recorded a ∷ []) x.0 x.1 x.2, x.3)) ok.whereabouts;
      made = let s = sum_by_push (λ (x : LaneView). x.made) col (recorded a) in let o = ok.made in omega arith;
      placed = λ p. let s = sum_by_push (λ (x : LaneView). times p x.places) col (recorded a) in let o = ok.placed p in
          omega arith;
      known = let x = ok.known in (x.0, x.1, at_longer col (recorded a ∷ []) x.0 x.1 x.2, x.3);
      rising = ok.rising;
    }

    longer_begins : (ys : List Visit) (b : Bool) → Begins a.known log → Begins ys log → Begins (cond b ys a.known) log
    longer_begins ys true h k = k
    longer_begins ys false h k = h

    longer_whole : (ys : List Visit) (b : Bool) → ltb (length a.known) (length ys) ≡ b → Begins ys log → a.known ≡ log →
        cond b ys a.known ≡ log
    longer_whole ys true is k e = let n = begins_length ys log k in let m = ap length e in let l =
        ltb-true (length a.known) (length ys) is in absurd (omega arith)
    longer_whole ys false is k e = e

    pub longer_known : (ys : List Visit) → Begins ys log → Begins (longer a.known ys) log
    longer_known ys h = longer_begins ys (ltb (length a.known) (length ys)) mine.begins h

    pub longer_kept : (ys : List Visit) → Begins ys log → a.known ≡ log → longer a.known ys ≡ log
    longer_kept ys h = longer_whole ys (ltb (length a.known) (length ys)) refl h

    known_merged : (other : ℕ) (b : LaneView) → ¬ (other ≡ id) → get_elem? (set col id (merged a b)) other ≡ some b →
        Begins b.known log → KnownWhole (set (set col id (merged a b)) other blank) log
    known_merged other b apart at' begins = let m = merged a b in let col₁ = set col id m in let x = ok.known in
        let here : get_elem? (set col₁ other blank) id ≡ some m =
        set_else col₁ other id blank (λ e. apart (sym e)) ∙ set_here col id m (at_below col id a at) in
        dite (ℕ_discrete x.0 other)
        (λ hit. let is : x.1 ≡ b = some-injective x.1 b
        (sym x.2 ∙ ap (λ (k : ℕ). get_elem? col k) hit ∙ sym (set_else col id other m apart) ∙ at') in
        let full : b.known ≡ log = ap (λ (z : LaneView). z.known) (sym is) ∙ x.3 in
        (id, m, here, ap (longer a.known) full ∙ longer_all a.known log mine.begins))
        (λ miss. dite (ℕ_discrete x.0 id)
        (λ hit. let is : x.1 ≡ a = some-injective x.1 a (sym x.2 ∙ ap (λ (k : ℕ). get_elem? col k) hit ∙ at) in
        (id, m, here, longer_kept b.known begins (ap (λ (z : LaneView). z.known) (sym is) ∙ x.3)))
        (λ ne. (x.0, x.1, set_else col₁ other x.0 blank miss ∙ set_else col id x.0 m ne ∙ x.2, x.3)))

    -- the join of another view keeps the lane's rule
    pub merges : (other : ℕ) (b : LaneView) → ¬ (other ≡ id) → get_elem? (set col id (merged a b)) other ≡ some b →
        b.stage ≡ Away → LaneOk lane first ticket serving home (set (set col id (merged a b)) other blank) log owner
    merges other b apart at' away = let m = merged a b in let col₁ = set col id m in
        let ob = ok.passes other b (sym (set_else col id other m apart) ∙ at') in
        let one : (j : ℕ) (x : LaneView) → get_elem? col₁ j ≡ some x → PassOk ticket serving owner home log j x =
        passes_set (PassOk ticket serving owner home log) col id m (λ j x _ e. ok.passes j x e) record {
          begins = longer_known b.known ob.begins;
          heard = all_heard a.known b.known log a.heard b.heard mine.begins ob.begins mine.heard ob.heard;
          conforms = known_conforms m.known a.stage (longer_kept b.known ob.begins) mine.conforms;
          loaded = (let f = mine.loaded in let g = ob.loaded in omega arith);
          found = (let f = mine.found in let g = ob.found in omega arith);
        } in
        record {
          ordered = ok.ordered;
          counted = let s = sum_at_set (λ (x : LaneView). has_ticket x.stage) col id a m at in let t =
              sum_at_set (λ (x : LaneView). has_ticket x.stage) col₁ other b blank at' in let q : has_ticket b.stage ≡ 0 =
              ap has_ticket away in let o = ok.counted in omega arith;
          drawn = let s = sum_at_set (λ (x : LaneView). x.tickets) col id a m at in let t =
              sum_at_set (λ (x : LaneView). x.tickets) col₁ other b blank at' in let o = ok.drawn in omega arith;
          passes = passes_set (PassOk ticket serving owner home log) col₁ other blank (λ j x _ e. one j x e)
              record { begins = begins_nil log; heard = tt; conforms = tt; loaded = omega arith; found = omega arith };
          whereabouts = whereabouts_set lane first serving home col₁ log other b blank at' (λ h. absurd (cc (away, h)))
              (whereabouts_set lane first serving home col log id a m at (λ h. h) ok.whereabouts);
          made = let s = sum_at_set (λ (x : LaneView). x.made) col id a m at in let t =
              sum_at_set (λ (x : LaneView). x.made) col₁ other b blank at' in let o = ok.made in omega arith;
          placed = λ p. let s = sum_at_set (λ (x : LaneView). times p x.places) col id a m at in let t =
              sum_at_set (λ (x : LaneView). times p x.places) col₁ other b blank at' in let o = ok.placed p in
              omega (arith, sum_by-append (λ (y : ℕ). cond (eqb y p) 1 0) a.places b.places);
          known = known_merged other b apart at' ob.begins;
          rising = ok.rising;
        }
