-- The load of a serving word by a pass that waits. A pass that finds its ticket gets the lane, and learns the lists
-- that the lane's value carries.
use Rattle.std.proofs.Common.{◌≡◌, ℕ, zero, suc, ◌+◌, ◌<◌, ◌≤◌, ◌≢◌, List, [], ◌∷◌, length, get_or, set, sym, refl, ap, ◌∙◌, subst, inl, inr, ⊎_elim, arith, Some}
use Rattle.std.proofs.lemmas.List.{get_or-set_other, get_or-set_same, set-get_or, length-set}
use mathlib.Core.Option.{some, none}
use mathlib.Core.Logic.{dite}
use native.Mathlib.Decide.{ℕ_discrete}
use lib.ListN.{get_elem?}
use Rattle.atomic_table.specs.Table.{step, keeps, takes, Allows}
use Rattle.atomic_table.proofs.Lists.{set_here, set_else}
use Rattle.lane_table.specs.declared.view.Visit.{Visit}
use Rattle.lane_table.specs.declared.view.LaneView.{LaneView}
use Rattle.lane_table.specs.declared.view.View.{View}
use Rattle.lane_table.specs.declared.view.Content.{Content}
use Rattle.lane_table.specs.declared.view.TicketStage.TheVariants.{Queued, Holding}
use Rattle.lane_table.specs.Meaning.{parent}
use Rattle.lane_table.specs.References.{Closed}
use Rattle.lane_table.specs.WorldRule.{Begins, Rising, Replays, Consistent, Home, IsHolding, LaneOk, Owed, RaisedOk, St, Conforms, WorldRule, at, blank, column, known_of, raises, ticket_word, serving_word}
use Rattle.lane_table.specs.Steps.{Got, Grows, KeepsHeld, OwesNothing, Seated, with_at, holder, longer, learn, learn_from, learned, serves as Serves}
use Rattle.lane_table.proofs.Lists.VisitLists.{begins_refl, longer_all, longer_begun}
use Rattle.lane_table.proofs.Rule.Naming.{pointed_longer, owed_more, owed_out, parent_within}
use Rattle.lane_table.proofs.Rule.OneLane as lane
use Rattle.lane_table.proofs.Rule.World.{Here, Recasts}
use Rattle.lane_table.proofs.Rule.World as world
use Rattle.lane_table.proofs.Rule.Plain as plain
use Rattle.lane_table.proofs.Rule.Drawing.{loaded_below}

pub length_learn : (lists : ℕ → List Visit) (k : ℕ) (l : List LaneView) → length (learn_from lists k l) ≡ length l
length_learn lists k [] = refl
length_learn lists k (a ∷ rest) = ap suc (length_learn lists (suc k) rest)

pub learn_at : (lists : ℕ → List Visit) (k : ℕ) (l : List LaneView) (j : ℕ) → j < length l →
    get_or (learn_from lists k l) j blank ≡ learn (lists (k + j)) (get_or l j blank)
learn_at lists k [] j h = absurd (omega arith)
learn_at lists k (a ∷ rest) zero h = let e : k + 0 ≡ k = omega arith in ap (λ (m : ℕ). learn (lists m) a) (sym e)
learn_at lists k (a ∷ rest) (suc j) h = let e : suc k + j ≡ k + suc j = omega arith in
    learn_at lists (suc k) rest j (omega arith) ∙ ap (λ (m : ℕ). learn (lists m) (get_or rest j blank)) e

-- the view of the pass that gets the lane `i` with the ticket `t`
module _ {first : ℕ} {s : St} {id : ℕ} {v : View} (h : Here first s id v) (i t : ℕ) (near : i < length s.homes)
    (waits : (at i v).stage ≡ Queued t) where
  abbrev log : List Visit
  log = h.rule.logs i

  abbrev lists : ℕ → List Visit
  lists = h.rule.carried i

  abbrev got_view : View
  got_view = with_at i (holder log t (at i v)) (learned lists v)

  got_length : length got_view.lanes ≡ length v.lanes
  got_length = length-set (learn_from lists 0 v.lanes) i (holder log t (at i v)) ∙ length_learn lists 0 v.lanes

  got_here : at i got_view ≡ holder log t (at i v)
  got_here = get_or-set_same (learn_from lists 0 v.lanes) i (holder log t (at i v)) blank
      (let e = length_learn lists 0 v.lanes in let f = (world.sized h).0 in omega arith)

  got_there : (j : ℕ) → j < length s.homes → j ≢ i → at j got_view ≡ learn (lists j) (at j v)
  got_there j below ne = get_or-set_other (learn_from lists 0 v.lanes) i j (holder log t (at i v)) blank ne
      ∙ learn_at lists 0 v.lanes j (let f = (world.sized h).0 in omega arith)
      ∙ (let e : 0 + j ≡ j = omega arith in ap (λ (m : ℕ). learn (lists m) (at j v)) e)

  got_known : (j : ℕ) → j < length s.homes → known_of got_view j ≡ longer (known_of v j) (lists j)
  got_known j below = dite (ℕ_discrete j i)
      (λ e. ap (known_of got_view) e ∙ ap (λ (a : LaneView). a.known) got_here
      ∙ sym (longer_all (known_of v i) log (world.begun h i near))
      ∙ ap (longer (known_of v i)) (sym (h.rule.carries i near).own)
      ∙ ap (λ (k : ℕ). longer (known_of v k) (lists k)) (sym e))
      (λ ne. ap (λ (a : LaneView). a.known) (got_there j below ne))

  got_begins : (j : ℕ) → j < length s.homes → Begins (known_of got_view j) (h.rule.logs j)
  got_begins j below = subst (λ (l : List Visit). Begins l (h.rule.logs j)) (sym (got_known j below))
      (lane.longer_known (h.rule.lane j below) id (world.here h j) (lists j) ((h.rule.carries i near).begins j below))

  got_recasts : (j : ℕ) → j < length s.homes → j ≢ i → Recasts (h.rule.logs j) (at j v) (at j got_view)
  got_recasts j below ne = let c = (h.rule.carries i near).begins j below in let ok = h.rule.lane j below in
      subst (Recasts (h.rule.logs j) (at j v)) (sym (got_there j below ne)) record {
        stage = refl;
        made = refl;
        places = refl;
        tickets = refl;
        loaded = refl;
        found = refl;
        heard = refl;
        begins = lane.longer_known ok id (world.here h j) (lists j) c;
        whole = lane.longer_kept ok id (world.here h j) (lists j) c;
      }

  got_grows : Grows v got_view
  got_grows j low = let below : j < length s.homes = (let f = (world.sized h).0 in omega arith) in
      longer_begun (known_of v j) (lists j) (h.rule.logs j) (known_of got_view j) (world.begun h j below)
      ((h.rule.carries i near).begins j below) (got_known j below)

  got_closed : Closed (length s.homes) (known_of got_view)
  got_closed l lo hi = let c = h.rule.carries i near in let low = parent_within l (length s.homes) h.rule.two in
      rw (got_known (parent l) low, got_known l hi)
      (pointed_longer l (known_of v (parent l)) (lists (parent l)) (h.rule.logs (parent l)) (known_of v l) (lists l)
      (world.begun h (parent l) low) (c.begins (parent l) low) ((h.rule.views id v h.is).closed l lo hi)
      (c.closed l lo hi))

  got_consistent : Consistent got_view
  got_consistent = world.consistent h h.rule.logs s.views got_view h.rule.lawful h.rule.pending
      (got_length ∙ (world.sized h).0) got_begins got_closed

  -- a pass that waits does not hold the lane
  waits_only : (u : ℕ) → ¬ ((at i v).stage ≡ Holding u)
  waits_only u hold = let g : Queued t ≡ Holding u = sym waits ∙ hold in absurd (cc g)

  got_free : OwesNothing i v
  got_free = plain.owes_nothing h i near waits_only

  -- the pass already knows the whole list of each other lane that it holds
  got_whole : (j u : ℕ) → j < length s.homes → j ≢ i → (at j v).stage ≡ Holding u → known_of got_view j ≡ known_of v j
  got_whole j u below ne hold = let whole = (lane.holds_turn (h.rule.lane j below) id (world.here h j) u hold).3 in
      (got_recasts j below ne).whole whole ∙ sym whole

  got_keeps : KeepsHeld i v got_view
  got_keeps j u low ne hold = let below : j < length s.homes = (let f = (world.sized h).0 in omega arith) in
      let e : longer (known_of v j) (lists j) ≡ known_of v j =
      ap (λ (a : LaneView). a.known) (sym (got_there j below ne)) ∙ got_whole j u below ne hold in
      got_there j below ne ∙ (λ k. record (at j v) { known = e k })

  got_owes : (l : ℕ) → l < length s.homes → (at l got_view).owes ≡ (at l v).owes
  got_owes l hi = dite (ℕ_discrete l i) (λ e. ap (λ (k : ℕ). (at k got_view).owes) e
      ∙ ap (λ (a : LaneView). a.owes) got_here ∙ ap (λ (k : ℕ). (at k v).owes) (sym e))
      (λ ne. ap (λ (a : LaneView). a.owes) (got_there l hi ne))

  got_owed : Owed (length s.homes) got_view
  got_owed l hi = let low = parent_within l (length s.homes) h.rule.two in let was =
      (h.rule.views id v h.is).owed l hi in dite (ℕ_discrete l i)
      (λ e. owed_out l (at l v) (at l got_view) (known_of v (parent l)) (known_of got_view (parent l)) was
      (λ u hold. waits_only u (ap (λ (z : ℕ). (at z v).stage) (sym e) ∙ hold)) (got_owes l hi))
      (λ ne. owed_more l (at l v) (at l got_view) (known_of v (parent l)) (known_of got_view (parent l)) was
      (got_recasts l hi ne).stage (got_owes l hi) (λ u hold. got_whole l u hi ne hold)
      (got_grows (parent l) (let f = (world.sized h).0 in omega arith)))

  got_raised : (at 1 got_view).raised ≡ (at 1 v).raised
  got_raised = dite (ℕ_discrete 1 i) (λ e. ap (λ (k : ℕ). (at k got_view).raised) e
      ∙ ap (λ (a : LaneView). a.raised) got_here ∙ ap (λ (k : ℕ). (at k v).raised) (sym e))
      (λ ne. ap (λ (a : LaneView). a.raised) (got_there 1 (let two = h.rule.two in omega arith) ne))

  got_raised_ok : RaisedOk (at 1 got_view)
  got_raised_ok = dite (ℕ_discrete 1 i) (λ e. inl (got_raised ∙ got_free.1 (sym e)))
      (λ ne. let c = got_recasts 1 (let two = h.rule.two in omega arith) ne in
      ⊎_elim (λ (z : (at 1 v).raised ≡ 0). inl (got_raised ∙ z))
      (λ (z : ((at 1 v).raised ≡ 1) × IsHolding (at 1 v)). inr (got_raised ∙ z.0, (z.1.0, c.stage ∙ z.1.1)))
      (h.rule.seen id v h.is).1)

  waits_conforms : Conforms (get_or s.words (ticket_word i) 0) (get_or s.words (serving_word i) 0) (h.rule.owners i)
      (get_elem? s.homes i) log id (known_of v i) (Queued t)
  waits_conforms = subst (Conforms (get_or s.words (ticket_word i) 0) (get_or s.words (serving_word i) 0) (h.rule.owners i)
      (get_elem? s.homes i) log id (known_of v i)) waits ((h.rule.lane i near).passes id (at i v) (world.here h i)).conforms

  -- if the lane is the base and serves the ticket `t`, `raised` is 0 in every view. So the generation that `v` has seen
  -- is at most the number of raises in the base's list
  got_seen : t ≡ get_or s.words (serving_word i) 0 → i ≡ 1 → v.seen ≤ raises log
  got_seen now one = let none = plain.none_raised h i near t one
      (now ∙ ap (λ (k : ℕ). get_or s.words (serving_word k) 0) one)
      (ap (λ (k : ℕ). h.rule.owners k t) (sym one) ∙ waits_conforms.2) (got_free.1 one) in
      let g = h.rule.generation in let o = (h.rule.seen id v h.is).0 in let e =
      ap (λ (k : ℕ). raises (h.rule.logs k)) one in omega arith

  -- after the pass took the slot, the rule holds
  got_rule : t ≡ get_or s.words (serving_word i) 0 →
      (c : Content) × (get_elem? s.homes i ≡ some (some (Some c))) × Replays i first log c
      × WorldRule first record {
        words = set s.words (serving_word i) (get_or s.words (serving_word i) 0);
        homes = set s.homes i none;
        views = set s.views id got_view;
      }
  got_rule now = let k : ℕ = serving_word i in let y : ℕ = get_or s.words k 0 in let turned =
      lane.turns (h.rule.lane i near) id (world.here h i) (waits ∙ ap Queued now) in
      let same = set-get_or s.words k 0 in let e₀ = ap (λ (ws : List ℕ). get_or ws 0 0) same in let home =
      set_here s.homes i none near in
      let P : List ℕ × Home × ℕ → Type 0 = λ z. LaneOk i first (get_or z.0 (ticket_word i) 0)
      (get_or z.0 (serving_word i) 0) z.1 (set (column i s.views) id (holder log z.2 (at i v))) log (h.rule.owners i)
      in (
        turned.0,
        turned.1,
        turned.2,
        world.moved h {i = i} {y = y} {k = k} {w = got_view} {a' = holder log t (at i v)} {homes' = set s.homes i none}
            {log' = log} {owner' = h.rule.owners i} {lists' = lists} record {
              word = world.serving_step h i y;
              long = length-set s.homes i none;
              apart = λ j ne. set_else s.homes i j none ne;
              lanes = got_length;
              here = got_here;
              others = got_recasts;
              share = refl;
              halvings = refl;
              firsts = refl;
              stamped = (h.rule.views id v h.is).stamped;
              more = begins_refl log;
              lane = subst P (λ q. (sym same q, sym home q, sym now q)) turned.3;
              lawful = h.rule.lawful i near;
              carries = world.carries_same h i near;
              closed = got_closed;
              owed = got_owed;
              pending = world.pending_same h i got_view got_owes;
              generation = (let r = got_raised in let p = ap raises (world.pick_same i 1 h.rule.logs) in omega arith);
              seen = (let o = (h.rule.seen id v h.is).0 in omega arith);
              raised = got_raised_ok;
            },
      )

pub serves : (first n id i t : ℕ) (me : Seated) → i < n → 0 < me.0.share → (at i me.0).stage ≡ Queued t
    → Allows (WorldRule first) n id me (serving_word i) (λ y. y) (Serves (step n (serving_word i) 0 0 none) me)
serves first n id i t me near share waits s r wide is _ = let h : Here first s id me.0 =
    record { rule = r; is = is; share = share } in let near' : i < length s.homes = omega arith in
    let k : ℕ = serving_word i in let y : ℕ = get_or s.words k 0 in let conforms = waits_conforms h i t near' waits in
    let above : (l : ℕ) → i ≡ l → (at l me.0).loaded ≤ y =
    λ l same. subst (λ (z : ℕ). (at z me.0).loaded ≤ y) same (loaded_below h i near') in
    let which : (l t' : ℕ) → i ≡ l → (at l me.0).stage ≡ Queued t' → t ≡ t' =
    λ l t' same waits'. let g : Queued t ≡ Queued t' = sym waits ∙ ap (λ (z : ℕ). (at z me.0).stage) same ∙ waits' in
    cc g in
    dite (ℕ_discrete t y)
    (λ now. let got = got_rule h i t near' waits now in let c : Content = got.0 in
    let w = got_view h i t near' waits in let f = (world.sized h).1 in
    let recorded : Got i t me (w, (i, Some c) ∷ me.1) = record {
      log = r.logs i;
      content = c;
      lists = r.carried i;
      begins = world.begun h i near';
      rising = subst (λ (z : ℕ). Rising z (r.logs i)) (sym f) (r.lane i near').rising;
      replays = subst (λ (z : ℕ). Replays i z (r.logs i) c) (sym f) got.2;
      consistent = got_consistent h i t near' waits;
      fresh = got_seen h i t near' waits now;
      free = got_free h i t near' waits;
      keeps = got_keeps h i t near' waits;
      is = refl;
      grows = got_grows h i t near' waits;
    } in (
      w,
      takes i (Some c),
      got.1,
      got.3,
      (λ l e t' waits'. let same : i ≡ l = omega arith in let one = which l t' same waits' in (
        above l same,
        (let q = conforms.0 in omega arith),
        (λ _. subst (λ (z : ℕ × ℕ). Got z.0 z.1 me (w, (i, Some c) ∷ me.1)) (λ q. (same q, one q)) recorded),
        λ miss. absurd (miss (sym now ∙ one)),
      )),
    ))
    (λ miss. (
      me.0,
      keeps,
      tt,
      world.stays h k,
      (λ l e t' waits'. let same : i ≡ l = omega arith in let one = which l t' same waits' in
          (above l same, (let q = conforms.0 in omega arith), (λ hit. absurd (miss (one ∙ sym hit))), λ _. refl)),
    ))
