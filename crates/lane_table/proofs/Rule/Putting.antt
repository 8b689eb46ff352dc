-- The stores of a serving word, which put a lane's value back with a visit or without, keep the rule.
use Rattle.std.proofs.Common.{◌≤◌, ◌≡◌, ℕ, ◌+◌, ◌<◌, ◌≢◌, List, [], ◌∷◌, ◌++◌, length, get_or, set, sym, refl, ap, ◌∙◌, subst, inl, inr, ⊎_elim, arith, Option, Some, None, length-append}
use Rattle.std.specs.Prelude.{All}
use Rattle.std.proofs.lemmas.List.{get_or-set_other, get_or-set_same, length-set}
use Rattle.std.proofs.lemmas.List.Elements.{All-append}
use mathlib.Core.Option.{some, none, some-injective}
use mathlib.Core.Option as maybe
use mathlib.Core.Logic.{dite}
use native.Mathlib.Decide.{ℕ_discrete}
use lib.ListN.{get_elem?}
use Rattle.atomic_table.specs.Table.{step, rest, put_back, gives, stepped, Allows}
use Rattle.atomic_table.proofs.Lists.{set_here, set_else, at_last}
use Rattle.lane_table.specs.declared.view.Visit.{Visit}
use Rattle.lane_table.specs.declared.view.LaneView.{LaneView}
use Rattle.lane_table.specs.declared.view.View.{View}
use Rattle.lane_table.specs.declared.view.Content.{Content}
use Rattle.lane_table.specs.declared.view.TicketStage.TheVariants.{Away, Holding}
use Rattle.lane_table.specs.Meaning.{ahead_of, parent, replay, IsOf, Fits, LawfulLane}
use Rattle.lane_table.specs.References.{Closed}
use Rattle.lane_table.specs.WorldRule.{Begins, Consistent, Carries, Home, IsHolding, LaneOk, Owed, OwedAt, Owes, AllPending, Pending, RaisedOk, Replays, Rising, St, WorldRule, at, blank, column, known_of, last_stamp, times, once_below, ticket_word, serving_word}
use Rattle.lane_table.specs.Steps.{MayName, NamesHeld, OwesNothing, Seated, after, filled, handed, left, leaves as Leaves, owing, puts as Puts, staged, visited, with_at}
use Rattle.lane_table.proofs.Lists.Lists.{at_below}
use Rattle.lane_table.proofs.Lists.VisitLists.{begins_refl, placed_push, rising_push}
use Rattle.lane_table.proofs.Lists.LawfulLists.{least_below}
use Rattle.lane_table.proofs.Rule.Naming.{parent_below, same_pair, owed_more, pending_views, pending_named}
use Rattle.lane_table.proofs.Rule.OneLane as lane
use Rattle.lane_table.proofs.Rule.World.{Here, Recasts, same_at, pick, pick_here, pick_else}
use Rattle.lane_table.proofs.Rule.World as world
use Rattle.lane_table.proofs.Rule.Plain.{Plain}
use Rattle.lane_table.proofs.Rule.Plain as plain
use Rattle.lane_table.proofs.Rule.Giving.{Enters}
use Rattle.lane_table.proofs.Rule.Giving as giving

some_is : (p q : ℕ) → Some p ≡ Some q → p ≡ q
some_is p q e = cc e

-- if all stamps are at most `m`, and a later stamp `n` is above `m`, then these stamps and `n` are at most `n`
stamped_push : (m n : ℕ) (stamps : List ℕ) → All (λ k. k ≤ m) stamps → m < n → All (λ k. k ≤ n) (stamps ++ n ∷ [])
stamped_push m n stamps all above = All-append (λ k. k ≤ n) stamps (n ∷ [])
    (λ k d low. let a = all k d low in omega arith)
    (λ k d low. let e : k ≡ 0 = omega arith in subst (λ (z : ℕ). get_or (n ∷ []) z d ≤ n) (sym e) (omega arith))

module _ {first : ℕ} {s : St} {id : ℕ} {v : View} (h : Here first s id v) (i t : ℕ) (near : i < length s.homes)
    (hold : (at i v).stage ≡ Holding t) where
  abbrev k : ℕ
  k = serving_word i

  abbrev homes' : Content → List (maybe.Option (Option Content))
  homes' c = set s.homes i (some (Some c))

  -- if the lane's rule holds for the serving number `t + 1` and a slot with `c`, the rule holds for the words and the
  -- slot after `c` went back
  home_lane : (c : Content) (log' : List Visit) (a' : LaneView) →
      LaneOk i first (get_or s.words (ticket_word i) 0) (t + 1) (some (some (Some c))) (set (column i s.views) id a')
      log' (h.rule.owners i)
      → LaneOk i first (get_or (set s.words k (t + 1)) (ticket_word i) 0)
      (get_or (set s.words k (t + 1)) (serving_word i) 0) (get_elem? (homes' c) i) (set (column i s.views) id a')
      log' (h.rule.owners i)
  home_lane c log' a' ok = let far : k < length s.words = (let e = h.rule.wide in omega arith) in
      let e₁ = get_or-set_other s.words k (ticket_word i) (t + 1) 0 (λ e. omega arith) in let e₂ =
      get_or-set_same s.words k (t + 1) 0 far in let e₃ = set_here s.homes i (some (Some c)) near in
      let P : ℕ × ℕ × Home → Type 0 = λ z. LaneOk i first z.0 z.1 z.2 (set (column i s.views) id a') log'
      (h.rule.owners i) in subst P (λ q. (sym e₁ q, sym e₂ q, sym e₃ q)) ok

  -- `stepped` puts back the slot that was taken last. If the rule holds for the words, slots and views after that, the
  -- rule holds for the state that `stepped` gives
  stored : (held : List (ℕ × Option Content)) (c : Content) (w : View) → held ≡ (i, Some c) ∷ rest held →
      WorldRule first record { words = set s.words k (t + 1); homes = homes' c; views = set s.views id w }
      → WorldRule first (stepped s k (t + 1) id held w gives)
  stored held c w has done = subst (λ (hs : List (maybe.Option (Option Content))). WorldRule first
      record { words = set s.words k (t + 1); homes = hs; views = set s.views id w }) (ap (put_back s.homes) (sym has))
      done

  -- a value that goes back without a visit keeps the rule
  pub left_kept : (held : List (ℕ × Option Content)) (c : Content) → held ≡ (i, Some c) ∷ rest held →
      Replays i v.first (known_of v i) c → OwesNothing i v
      → WorldRule first (stepped s k (t + 1) id held (with_at i (staged Away (at i v)) v) gives)
  left_kept held c has plays free = let a' = staged Away (at i v) in let w = with_at i a' v in let turn =
      giving.turn h i t near hold in let log = h.rule.logs i in
      let p : Plain i v w a' = record {
        lanes = refl;
        known = refl;
        owes = refl;
        stage = inr free;
        share = refl;
        halvings = refl;
        first = refl;
        stamp = refl;
        stamps = refl;
      } in
      let ok = lane.gives (h.rule.lane i near) id (world.here h i) t log c a' hold (begins_refl log) refl turn.3 refl
      refl refl refl refl (λ _. refl) (h.rule.lane i near).rising
      (subst (λ (z : ℕ × List Visit). Replays i z.0 z.1 c) (λ q. ((world.sized h).1 q, turn.3 q)) plays) in
      let w₀ = world.unraised h k (t + 1) (λ e. omega arith) in let same = plain.w_raised h i near p refl in
      stored held c w has (plain.plainly h i near p {k = k} {y = t + 1} (homes' c) (h.rule.owners i)
      (world.serving_step h i (t + 1)) (length-set s.homes i (some (Some c)))
      (λ j ne. set_else s.homes i j (some (Some c)) ne)
      (home_lane c log a' ok) (omega arith) (let o = (h.rule.seen id v h.is).0 in omega arith)
      (plain.w_raised_ok h i near p refl))

  -- the value goes back with the visit `x`
  module _ (x : Visit) (enters : Enters i x v) (above : last_stamp v.first (known_of v i) < x.stamp)
      (later : v.stamp < x.stamp) where
    abbrev logs' : ℕ → List Visit
    logs' = pick i (giving.log' h i t near hold x enters) h.rule.logs

    abbrev own : View
    own = giving.own h i t near hold x enters

    -- `w` is a view after the visit: its part of lane `i` has the visit, and its other parts keep the rule
    record Visits (w : View) : Type 0 where
      lanes : length w.lanes ≡ length v.lanes
      here : at i w ≡ visited x (at i v)
      others : (j : ℕ) → j < length s.homes → j ≢ i → Recasts (h.rule.logs j) (at j v) (at j w)
      closed : Closed (length s.homes) (known_of w)
      owed : Owed (length s.homes) w
      pending : AllPending (length s.homes) logs' (set s.views id w)
      raised : (at 1 w).raised ≡ (at 1 own).raised
      raised_ok : RaisedOk (at 1 w)
      same : (w.share ≡ v.share) × (w.halvings ≡ v.halvings) × (w.first ≡ v.first) × (w.seen ≡ v.seen)
      stamps : (w.stamp ≡ x.stamp) × (w.stamps ≡ v.stamps ++ x.stamp ∷ [])

    homed : (held : List (ℕ × Option Content)) (c : Content) (w : View) → held ≡ (i, Some c) ∷ rest held →
        Replays i v.first (known_of v i ++ x ∷ []) c → Visits w
        → WorldRule first (stepped s k (t + 1) id held w gives) × Consistent w
    homed held c w has plays z = let log' = known_of v i ++ x ∷ [] in let a' = visited x (at i v) in let n : ℕ =
        length s.homes in let whole = giving.whole h i t near hold x enters in let f = world.sized h in
        let more : Begins (h.rule.logs i) log' = (x ∷ [], ap (λ (l : List Visit). l ++ x ∷ []) whole) in
        let lawful' = giving.lawful_here h i t near hold x enters in
        let long : length log' ≡ length (h.rule.logs i) + 1 =
        omega (arith, length-append (known_of v i) (x ∷ []), ap length whole) in
        let ok = lane.gives (h.rule.lane i near) id (world.here h i) t log' c a' hold more refl refl refl refl refl refl
        (omega arith)
        (λ p. subst (λ (l : List Visit). times p a'.places + once_below p (length l) ≡ times p
        (at i v).places + once_below p (length log')) whole (placed_push (at i v).places (known_of v i) x p))
        (rising_push first (known_of v i) x (subst (Rising first) (sym whole) (h.rule.lane i near).rising)
        (subst (λ (z : ℕ). last_stamp z (known_of v i) < x.stamp) f.1 above))
        (subst (λ (z : ℕ). Replays i z log' c) f.1 plays) in
        let own' : known_of w i ≡ log' = ap (λ (y : LaneView). y.known) z.here in
        let carries' : Carries n logs' i (known_of w) = record {
          begins = λ m low. dite (ℕ_discrete m i)
              (λ e. subst (λ (z : List Visit × List Visit). Begins z.0 z.1)
              (λ q. (sym (ap (known_of w) e ∙ own') q, sym (ap logs' e ∙ pick_here i log' h.rule.logs) q))
              (begins_refl log'))
              (λ ne. subst (Begins (known_of w m)) (sym (pick_else i m log' h.rule.logs ne))
              (z.others m low ne).begins);
          own = own' ∙ sym (pick_here i log' h.rule.logs);
          closed = z.closed;
        } in
        let w₀ = world.unraised h k (t + 1) (λ e. omega arith) in (
          stored held c w has (world.moved h {i = i} {y = t + 1} {k = k} {w = w} {a' = a'} {homes' = homes' c}
              {log' = log'} {owner' = h.rule.owners i} {lists' = known_of w} record {
                word = world.serving_step h i (t + 1);
                long = length-set s.homes i (some (Some c));
                apart = λ j ne. set_else s.homes i j (some (Some c)) ne;
                lanes = z.lanes;
                here = z.here;
                others = z.others;
                share = z.same.0;
                halvings = z.same.1;
                firsts = z.same.2;
                stamped = subst (λ (q : ℕ × List ℕ). All (λ n. n ≤ q.0) q.1) (λ q. (sym z.stamps.0 q, sym z.stamps.1 q))
                    (stamped_push v.stamp x.stamp v.stamps (h.rule.views id v h.is).stamped later);
                more = more;
                lane = home_lane c log' a' ok;
                lawful = lawful';
                carries = carries';
                closed = z.closed;
                owed = z.owed;
                pending = z.pending;
                generation = (let r = giving.raised_count h i t near hold x enters in let q = z.raised in omega arith);
                seen = (let o = (h.rule.seen id v h.is).0 in let q = z.same.3 in omega arith);
                raised = z.raised_ok;
              }),
          world.consistent h logs' (set s.views id w) w (λ j below. dite (ℕ_discrete j i)
              (λ e. subst (λ (z : ℕ). LawfulLane n z (logs' z)) (sym e) (rw (pick_here i log' h.rule.logs) lawful'))
              (λ ne. rw (pick_else i j log' h.rule.logs ne) (h.rule.lawful j below)))
              z.pending (z.lanes ∙ f.0) carries'.begins z.closed,
        )

    own_others : (j : ℕ) → j < length s.homes → j ≢ i → Recasts (h.rule.logs j) (at j v) (at j own)
    own_others j below ne = same_at (h.rule.logs j) (at j v) (at j own)
        (giving.own_there h i t near hold x enters j ne) (world.begun h j below)

    -- if the entry names no place ahead, `own` is a view after the visit
    visits_plain : ahead_of x.entry ≡ None → Visits own
    visits_plain none' = record {
      lanes = giving.own_long h i t near hold x enters;
      here = giving.own_here h i t near hold x enters;
      others = own_others;
      closed = giving.own_closed h i t near hold x enters;
      owed = giving.own_owed h i t near hold x enters;
      pending = λ l lo hi. giving.pending_at h i t near hold x enters own l lo hi
          (λ ne. ap (λ (a : LaneView). a.owes) (giving.own_there h i t near hold x enters l ne))
          (λ _ b n. let g : ◌≡◌ {A = Option (ℕ × ℕ)} None (Some (l, b)) = sym none' ∙ n in absurd (cc g));
      raised = refl;
      raised_ok = giving.raised_fine h i t near hold x enters;
      same = (refl, refl, refl, refl);
      stamps = (refl, refl);
    }

    -- the entry names the place `b` of the lane `d`, which the pass holds
    module _ (d b : ℕ) (ahead : ahead_of x.entry ≡ Some (d, b)) (held : NamesHeld i v d b) where
      abbrev place : ℕ
      place = length (known_of v i)

      abbrev owing' : LaneView → LaneView
      owing' a = record a { owes = Some place }

      abbrev w : View
      w = with_at d (owing' (at d own)) own

      hi_d : d < length s.homes
      hi_d = let e = held.near in let f = (world.sized h).0 in omega arith

      apart : d ≢ i
      apart e = let low = parent_below d held.above in let p = held.parent in omega arith

      at_d : at d w ≡ owing' (at d v)
      at_d = get_or-set_same own.lanes d (owing' (at d own)) blank
          (let e = held.near in let f = giving.own_long h i t near hold x enters in omega arith)
          ∙ ap owing' (giving.own_there h i t near hold x enters d apart)

      at_else : (j : ℕ) → j ≢ d → at j w ≡ at j own
      at_else j ne = get_or-set_other own.lanes d j (owing' (at d own)) blank ne

      own_d : at d own ≡ at d v
      own_d = giving.own_there h i t near hold x enters d apart

      field : {X : Type 0} (f : LaneView → X) → ((a : LaneView) → f (owing' a) ≡ f a) → (j : ℕ) →
          f (at j w) ≡ f (at j own)
      field f keeps j = dite (ℕ_discrete j d) (λ e. ap (λ (z : ℕ). f (at z w)) e ∙ ap f at_d ∙ keeps (at d v)
          ∙ ap f (sym own_d) ∙ ap (λ (z : ℕ). f (at z own)) (sym e)) (λ ne. ap f (at_else j ne))

      known_w : (j : ℕ) → known_of w j ≡ known_of own j
      known_w = field (λ (a : LaneView). a.known) (λ a. refl)

      others_w : (j : ℕ) → j < length s.homes → j ≢ i → Recasts (h.rule.logs j) (at j v) (at j w)
      others_w j below ne = dite (ℕ_discrete j d)
          (λ e. subst (λ (z : ℕ). Recasts (h.rule.logs z) (at z v) (at z w)) (sym e)
          (subst (Recasts (h.rule.logs d) (at d v)) (sym at_d)
          record {
            stage = refl;
            made = refl;
            places = refl;
            tickets = refl;
            loaded = refl;
            found = refl;
            heard = refl;
            begins = world.begun h d hi_d;
            whole = λ q. q;
          }))
          (λ n₁. subst (Recasts (h.rule.logs j) (at j v)) (sym (at_else j n₁)) (own_others j below ne))

      closed_w : Closed (length s.homes) (known_of w)
      closed_w l lo hi = rw (known_w (parent l), known_w l) (giving.own_closed h i t near hold x enters l lo hi)

      -- after the visit the pass owes an answer at lane `d`, to the entry of this visit
      owed_d : OwedAt d (at d w) (known_of w (parent d))
      owed_d p n = let at_p : p ≡ place = some_is p place (sym n ∙ ap (λ (a : LaneView). a.owes) at_d) in (
        (held.holding.0, ap (λ (a : LaneView). a.stage) at_d ∙ held.holding.1),
        (
          x,
          ap (λ (l : List Visit). get_elem? l p) (known_w (parent d)
              ∙ giving.known_here h i t near hold x enters (parent d) held.parent)
              ∙ at_last (known_of v (parent d)) x p (ap (λ (k : ℕ). length (known_of v k)) held.parent ∙ sym at_p),
          ahead ∙ ap (λ (q : ℕ). Some (d, q)) (held.next ∙ ap (λ (a : LaneView). length a.known) (sym at_d)),
        ),
        subst (λ (a : LaneView). (replay a.known).least ≤ p) (sym at_d)
            (let low = least_below d (known_of v (parent d)) (known_of v d)
            ((h.rule.views id v h.is).closed d held.above hi_d) in let e =
            ap (λ (k : ℕ). length (known_of v k)) held.parent in omega arith),
      )

      owed_w : Owed (length s.homes) w
      owed_w l hi = dite (ℕ_discrete l d) (λ e. subst (λ (z : ℕ). OwedAt z (at z w) (known_of w (parent z))) (sym e)
          owed_d)
          (λ ne. let a = at_else l ne in owed_more l (at l own) (at l w) (known_of own (parent l))
          (known_of w (parent l)) (giving.own_owed h i t near hold x enters l hi) (ap (λ (z : LaneView). z.stage) a)
          (ap (λ (z : LaneView). z.owes) a) (λ _ _. ap (λ (z : LaneView). z.known) a)
          (subst (Begins (known_of own (parent l))) (sym (known_w (parent l))) (begins_refl (known_of own (parent l)))))

      -- the reference from the visit's entry to the lane `d` is pending: it is answered or owed
      pending_d : Pending d (logs' (parent d)) (logs' d) (set s.views id w)
      pending_d = let logs = h.rule.logs in let views' = set s.views id w in
          let kept : (p : ℕ) → Owes d p s.views → Owes d p views' = λ p q. dite (ℕ_discrete q.0 id)
          (λ e. let same : q.1 ≡ v = some-injective q.1 v (sym q.2 ∙ ap (λ (k : ℕ). get_elem? s.views k) e ∙ h.is) in
          let g : None ≡ Some p = sym held.free ∙ ap (λ (z : View). (at d z).owes) (sym same) ∙ q.3 in absurd (cc g))
          (λ ne. (q.0, q.1, set_else s.views id q.0 w ne ∙ q.2, q.3)) in
          let base = pending_views d (logs (parent d)) (logs d) s.views views' (h.rule.pending d held.above hi_d) kept
          in
          let full : known_of v d ≡ logs d = (giving.turn h d held.holding.0 hi_d held.holding.1).3 in
          let whole = giving.whole h i t near hold x enters in
          let owner : Owes d (length (logs (parent d))) views' = (
            id,
            w,
            set_here s.views id w (at_below s.views id v h.is),
            ap (λ (a : LaneView). a.owes) at_d
                ∙ ap (λ (l : List Visit). Some (length l)) whole
                ∙ ap (λ (k : ℕ). Some (length (logs k))) (sym held.parent),
          ) in
          subst (λ (z : List Visit × List Visit). Pending d z.0 z.1 views')
          (λ q. (
            sym (giving.log_here h i t near hold x enters (parent d) held.parent) q,
            sym (pick_else i d (known_of v i ++ x ∷ []) logs apart) q,
          ))
          (pending_named d (logs (parent d)) (logs d) views' x base
          (ahead ∙ ap (λ (q : ℕ). Some (d, q)) (held.next ∙ ap length full)) owner)

      pending_w : AllPending (length s.homes) logs' (set s.views id w)
      pending_w l lo hi = dite (ℕ_discrete l d) (λ e. subst
          (λ (z : ℕ). Pending z (logs' (parent z)) (logs' z) (set s.views id w)) (sym e) pending_d)
          (λ ne. giving.pending_at h i t near hold x enters w l lo hi
          (λ n₁. ap (λ (a : LaneView). a.owes) (at_else l ne ∙ giving.own_there h i t near hold x enters l n₁))
          (λ _ q n. let g = same_pair (d, b) (l, q) (sym ahead ∙ n) in ne (ap (λ (z : ℕ × ℕ). z.0) (sym g))))

      raised_w : (at 1 w).raised ≡ (at 1 own).raised
      raised_w = field (λ (a : LaneView). a.raised) (λ a. refl) 1

      visits_ahead : Visits w
      visits_ahead = record {
        lanes = length-set own.lanes d (owing' (at d own)) ∙ giving.own_long h i t near hold x enters;
        here = at_else i (λ e. apart (sym e)) ∙ giving.own_here h i t near hold x enters;
        others = others_w;
        closed = closed_w;
        owed = owed_w;
        pending = pending_w;
        raised = raised_w;
        raised_ok = ⊎_elim (λ (z : (at 1 own).raised ≡ 0). inl (raised_w ∙ z))
            (λ (z : ((at 1 own).raised ≡ 1) × IsHolding (at 1 own)). inr
            (raised_w ∙ z.0, (z.1.0, field (λ (a : LaneView). a.stage) (λ a. refl) 1 ∙ z.1.1)))
            (giving.raised_fine h i t near hold x enters);
        same = (refl, refl, refl, refl);
        stamps = (refl, refl);
      }

    pub put_kept : (slots : List (ℕ × Option Content)) (c : Content) → slots ≡ (i, Some c) ∷ rest slots →
        Replays i v.first (known_of v i ++ x ∷ []) c →
        WorldRule first (stepped s k (t + 1) id slots (after i x v) gives) × Consistent (after i x v)
    put_kept slots c has plays = let P : Option (ℕ × ℕ) → Type 0 =
        λ q. WorldRule first (stepped s k (t + 1) id slots (owing q (length (known_of v i)) own) gives)
        × Consistent (owing q (length (known_of v i)) own) in
        ⊎_elim (λ (e : ahead_of x.entry ≡ None). subst P (sym e) (homed slots c own has plays (visits_plain e)))
        (λ (a : (l : ℕ) × (b : ℕ) × (ahead_of x.entry ≡ Some (l, b)) × NamesHeld i v l b). subst P (sym a.2)
        (homed slots c (w a.0 a.1 a.2 a.3) has plays (visits_ahead a.0 a.1 a.2 a.3))) enters.names.ahead

module _ (first n id i t : ℕ) (m m' : Seated) (c : Content) (stored : m' ≡ (m.0, (i, Some c) ∷ rest m.1)) (near : i < n)
    (share : 0 < m.0.share) (hold : (at i m.0).stage ≡ Holding t) where
  pub puts : (x y : Visit) → y ≡ x → last_stamp m.0.first (known_of m.0 i) < x.stamp → m.0.stamp < x.stamp →
      IsOf i x.entry → Fits (replay (known_of m.0 i)) (handed i x.entry m.0) x.entry → MayName i x.entry m.0
      → Replays i m.0.first (known_of m.0 i ++ filled i x m.0 ∷ []) c
      → Allows (WorldRule first) n id m' (serving_word i) (λ _. t + 1)
      (λ _ z. Puts y (step n (serving_word i) (t + 1) 0 none) m' (t + 1) z)
  puts x y same above later kind fits names plays =
      subst (λ (q : Seated × Visit). Allows (WorldRule first) n id q.0 (serving_word i) (λ _. t + 1)
      (λ _ z. Puts q.1 (step n (serving_word i) (t + 1) 0 none) q.0 (t + 1) z)) (λ k. (sym stored k, sym same k))
      (λ s r wide is _. let h : Here first s id m.0 = record { rule = r; is = is; share = share } in
      let near' : i < length s.homes = omega arith in let z : Visit = filled i x m.0 in
      let enters : Enters i z m.0 = record { kind = kind; got_is = refl; gave_is = refl; fits = fits; names = names } in
      let slots : List (ℕ × Option Content) = (i, Some c) ∷ rest m.1 in
      let done = put_kept h i t near' hold z enters above later slots c refl plays in (
        after i z m.0,
        gives,
        tt,
        done.0,
        (λ l e. let at_l : i ≡ l = omega arith in (
          ap (λ (q : ℕ). (after q (filled q x m.0) m.0, rest m.1)) at_l,
          done.1,
        )),
      ))

  pub leaves : Replays i m.0.first (known_of m.0 i) c → OwesNothing i m.0 →
      Allows (WorldRule first) n id m' (serving_word i) (λ _. t + 1)
      (λ _ z. Leaves (step n (serving_word i) (t + 1) 0 none) m' (t + 1) z)
  leaves plays free = subst (λ (q : Seated). Allows (WorldRule first) n id q (serving_word i) (λ _. t + 1)
      (λ _ z. Leaves (step n (serving_word i) (t + 1) 0 none) q (t + 1) z)) (sym stored)
      (λ s r wide is _. let h : Here first s id m.0 = record { rule = r; is = is; share = share } in
      let near' : i < length s.homes = omega arith in let slots : List (ℕ × Option Content) =
      (i, Some c) ∷ rest m.1 in (
        with_at i (staged Away (at i m.0)) m.0,
        gives,
        tt,
        left_kept h i t near' hold slots c refl plays free,
        (λ l e. let at_l : i ≡ l = omega arith in ap (λ (q : ℕ). left q (m.0, slots)) at_l),
      ))
