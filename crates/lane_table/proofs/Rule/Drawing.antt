-- The steps that draw a ticket, or read a lane's ticket word or serving word, keep the rule and change the view as
-- `Steps` defines.
use Rattle.std.proofs.Common.{◌≡◌, ℕ, ◌+◌, ◌<◌, ◌≤◌, eqb, length, get_or, set, sym, refl, ap, ◌∙◌, subst, inl, inr, arith, le_refl}
use Rattle.std.proofs.lemmas.List.{get_or-set_other, get_or-set_same}
use mathlib.Core.Option.{none}
use lib.ListN.{get_elem?}
use prog.Atomic.{either}
use Rattle.atomic_table.specs.Table.{step, keeps, Allows}
use Rattle.atomic_table.proofs.Lists.{exchanged}
use Rattle.lane_table.specs.declared.view.LaneView.{LaneView}
use Rattle.lane_table.specs.declared.view.View.{View}
use Rattle.lane_table.specs.declared.view.TicketStage.TheVariants.{Away, Holding}
use Rattle.lane_table.specs.WorldRule.{LaneOk, St, WorldRule, at, column, ticket_word, serving_word}
use Rattle.lane_table.specs.Steps.{Seated, OwesNothing, with_at, with_drawn, finding, found, loading, loaded, waiting, queued, queued_found, draws as Draws, tries as Tries, finds as Finds, loads as Loads}
use Rattle.lane_table.specs.Calls.{IsAway}
use Rattle.lane_table.proofs.Rule.OneLane as lane
use Rattle.lane_table.proofs.Rule.World.{Here, Goes}
use Rattle.lane_table.proofs.Rule.World as world
use Rattle.lane_table.proofs.Rule.Plain.{Plain}
use Rattle.lane_table.proofs.Rule.Plain as plain

module _ {first : ℕ} {s : St} {id : ℕ} {v : View} (h : Here first s id v) (i : ℕ) (near : i < length s.homes) where
  -- a pass that neither waits for the lane `i` nor holds it owes no answer at that lane
  pub away_owes_nothing : IsAway i v → OwesNothing i v
  away_owes_nothing away = plain.owes_nothing h i near
      (λ t hold. let g : Away ≡ Holding t = sym away ∙ hold in absurd (cc g))

  pub loaded_below : (at i v).loaded ≤ get_or s.words (serving_word i) 0
  loaded_below = ((h.rule.lane i near).passes id (at i v) (world.here h i)).loaded

  found_below : (at i v).found ≤ get_or s.words (ticket_word i) 0
  found_below = ((h.rule.lane i near).passes id (at i v) (world.here h i)).found

  loaded_found : (at i v).loaded ≤ get_or s.words (ticket_word i) 0
  loaded_found = let a = loaded_below in let b = (h.rule.lane i near).ordered in omega arith

  -- if a pass draws the ticket that the ticket word of the lane `i` has, the rule still holds
  drawn : (n : ℕ) → IsAway i v → n ≤ get_or s.words (ticket_word i) 0
      → (let t : ℕ = get_or s.words (ticket_word i) 0 in
      WorldRule first record {
        words = set s.words (ticket_word i) (t + 1);
        homes = s.homes;
        views = set s.views id (with_at i (waiting t (finding n (at i v))) (with_drawn v));
      })
  drawn n away low = let k : ℕ = ticket_word i in let t : ℕ = get_or s.words k 0 in let a' : LaneView =
      waiting t (finding n (at i v)) in let w : View = with_at i a' (with_drawn v) in
      let p : Plain i v w a' = record {
        lanes = refl;
        known = refl;
        owes = refl;
        stage = inr (away_owes_nothing away);
        share = refl;
        halvings = refl;
        first = refl;
        stamp = refl;
        stamps = refl;
      } in
      let ok = lane.draws (h.rule.lane i near) id (world.here h i) n away low in
      let far : k < length s.words = (let e = h.rule.wide in omega arith) in
      let w₁ : get_or (set s.words k (t + 1)) k 0 ≡ t + 1 = get_or-set_same s.words k (t + 1) 0 far in
      let w₂ = get_or-set_other s.words k (serving_word i) (t + 1) 0 (λ e. omega arith) in let w₀ =
      world.unraised h k (t + 1) (λ e. omega arith) in
      plain.plainly h i near p {k = k} {y = t + 1} s.homes ok.0 (world.ticket_step h i (t + 1)) refl (λ _ _. refl)
      (subst (λ (z : ℕ × ℕ). LaneOk i first z.0 z.1 (get_elem? s.homes i) (set (column i s.views) id a')
      (h.rule.logs i) ok.0) (λ q. (sym w₁ q, sym w₂ q)) ok.1)
      (let r = plain.w_raised h i near p refl in omega arith) (let o = (h.rule.seen id v h.is).0 in omega arith)
      (plain.w_raised_ok h i near p refl)

  -- a load of the ticket word keeps the rule
  finds_kept : (let k : ℕ = ticket_word i in let y : ℕ = get_or s.words k 0 in
      WorldRule first record {
        words = set s.words k y;
        homes = s.homes;
        views = set s.views id (with_at i (finding y (at i v)) v);
      })
  finds_kept = let k : ℕ = ticket_word i in let y : ℕ = get_or s.words k 0 in let a' = finding y (at i v) in
      let p : Plain i v (with_at i a' v) a' = record {
        lanes = refl;
        known = refl;
        owes = refl;
        stage = inl refl;
        share = refl;
        halvings = refl;
        first = refl;
        stamp = refl;
        stamps = refl;
      } in
      plain.reads h i near p k (world.ticket_step h i y)
      (lane.recast (h.rule.lane i near) id (world.here h i) a' refl refl refl refl loaded_below (le_refl y) refl
      (world.begun h i near) (λ e. e)) refl refl

  -- a load of the serving word keeps the rule
  loads_kept : (let k : ℕ = serving_word i in let y : ℕ = get_or s.words k 0 in
      WorldRule first record {
        words = set s.words k y;
        homes = s.homes;
        views = set s.views id (with_at i (loading y (at i v)) v);
      })
  loads_kept = let k : ℕ = serving_word i in let y : ℕ = get_or s.words k 0 in let a' = loading y (at i v) in
      let p : Plain i v (with_at i a' v) a' = record {
        lanes = refl;
        known = refl;
        owes = refl;
        stage = inl refl;
        share = refl;
        halvings = refl;
        first = refl;
        stamp = refl;
        stamps = refl;
      } in
      plain.reads h i near p k (world.serving_step h i y)
      (lane.recast (h.rule.lane i near) id (world.here h i) a' refl refl refl refl (le_refl y) found_below refl
      (world.begun h i near) (λ e. e)) refl refl

module _ (first n id i : ℕ) (me : Seated) (near : i < n) (share : 0 < me.0.share) where
  abbrev k : ℕ
  k = ticket_word i

  pub draws : (old : ℕ) → IsAway i me.0 → Allows (WorldRule first) n id me k (λ y. either (eqb y old) (old + 1) y)
      (Draws (step n k old (old + 1) none) me)
  draws old away s r wide is _ = let h : Here first s id me.0 = record { rule = r; is = is; share = share } in
      let near' : i < length s.homes = omega arith in let y : ℕ = get_or s.words k 0 in
      exchanged y old (old + 1) (Goes first s k id me (Draws (step n k old (old + 1) none) me))
      (λ hit. (
        (queued i old me).0,
        keeps,
        tt,
        subst (λ (t : ℕ). WorldRule first record {
          words = set s.words k (t + 1);
          homes = s.homes;
          views = set s.views id (queued i t me).0;
        }) hit
            (drawn h i near' (at i me.0).found away (found_below h i near')),
        (λ l e. let same : i ≡ l = omega arith in (
          (λ _. ap (λ (z : ℕ). queued z old me) same),
          λ miss. absurd (miss hit),
        )),
      ))
      (λ miss. (me.0, keeps, tt, world.stays h k, (λ l e. ((λ hit. absurd (miss hit)), λ _. refl))))

  pub tries : (old : ℕ) → IsAway i me.0 → Allows (WorldRule first) n id me k (λ y. either (eqb y old) (old + 1) y)
      (Tries (step n k old (old + 1) none) me)
  tries old away s r wide is _ = let h : Here first s id me.0 = record { rule = r; is = is; share = share } in
      let near' : i < length s.homes = omega arith in let y : ℕ = get_or s.words k 0 in
      let above : (l : ℕ) → i ≡ l → (at l me.0).loaded ≤ y =
      λ l same. subst (λ (z : ℕ). (at z me.0).loaded ≤ y) same (loaded_found h i near') in
      exchanged y old (old + 1) (Goes first s k id me (Tries (step n k old (old + 1) none) me))
      (λ hit. (
        (queued_found i old me).0,
        keeps,
        tt,
        subst (λ (t : ℕ). WorldRule first record {
          words = set s.words k (t + 1);
          homes = s.homes;
          views = set s.views id (queued_found i t me).0;
        }) hit (drawn h i near' y away (le_refl y)),
        (λ l e. let same : i ≡ l = omega arith in (
          above l same,
          (λ _. ap (λ (z : ℕ). queued_found z old me) same),
          λ miss. absurd (miss hit),
        )),
      ))
      (λ miss. (
        (found i y me).0,
        keeps,
        tt,
        finds_kept h i near',
        (λ l e. let same : i ≡ l = omega arith in (
          above l same,
          (λ hit. absurd (miss hit)),
          λ _. ap (λ (z : ℕ). found z y me) same,
        )),
      ))

  pub finds : Allows (WorldRule first) n id me k (λ y. y) (Finds (step n k 0 0 none) me)
  finds s r wide is _ = let h : Here first s id me.0 = record { rule = r; is = is; share = share } in
      let near' : i < length s.homes = omega arith in let y : ℕ = get_or s.words k 0 in (
        (found i y me).0,
        keeps,
        tt,
        finds_kept h i near',
        (λ l e. let same : i ≡ l = omega arith in (
          subst (λ (z : ℕ). (at z me.0).loaded ≤ y) same (loaded_found h i near'),
          ap (λ (z : ℕ). found z y me) same,
        )),
      )

  pub loads : Allows (WorldRule first) n id me (serving_word i) (λ y. y) (Loads (step n (serving_word i) 0 0 none) me)
  loads s r wide is _ = let h : Here first s id me.0 = record { rule = r; is = is; share = share } in
      let near' : i < length s.homes = omega arith in let y : ℕ = get_or s.words (serving_word i) 0 in (
        (loaded i y me).0,
        keeps,
        tt,
        loads_kept h i near',
        (λ l e. let same : i ≡ l = omega arith in (
          subst (λ (z : ℕ). (at z me.0).loaded ≤ y) same (loaded_below h i near'),
          ap (λ (z : ℕ). loaded z y me) same,
        )),
      )
