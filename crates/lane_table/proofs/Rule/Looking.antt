-- The generation word: a look at it, and the store that raises it.
use Rattle.std.proofs.Common.{◌≡◌, ℕ, ◌+◌, ◌^◌, ◌<◌, ◌≤◌, List, length, get_or, set, sym, refl, ap, ◌∙◌, subst, inl, inr, arith}
use Rattle.std.proofs.lemmas.List.{get_or-set_other, get_or-set_same, set-get_or}
use mathlib.Core.Option.{none}
use lib.ListN.{get_elem?}
use Rattle.atomic_table.specs.Table.{step, keeps, Allows}
use Rattle.atomic_table.proofs.Lists.{set_again}
use Rattle.lane_table.specs.declared.view.LaneView.{LaneView}
use Rattle.lane_table.specs.declared.view.View.{View}
use Rattle.lane_table.specs.declared.view.TicketStage.TheVariants.{Holding}
use Rattle.lane_table.specs.WorldRule.{LaneOk, St, WorldRule, at, column, known_of, raises, ticket_word, serving_word}
use Rattle.lane_table.specs.Steps.{Seated, raises_generation as RaisesGeneration, looks as Looks, raised, raising, saw}
use Rattle.lane_table.specs.Calls.{Ended, settles as Settles}
use Rattle.lane_table.proofs.Rule.Ending.{ends_all}
use Rattle.lane_table.proofs.Lists.VisitLists.{raises_begun}
use Rattle.lane_table.proofs.Rule.OneLane as lane
use Rattle.lane_table.proofs.Rule.World.{Here, WordStep}
use Rattle.lane_table.proofs.Rule.World as world
use Rattle.lane_table.proofs.Rule.Plain.{Plain}
use Rattle.lane_table.proofs.Rule.Plain as plain
use Rattle.lane_table.proofs.Rule.Giving as giving

-- word 0, the generation, belongs to no lane
not_lane : {first : ℕ} {s : St} {id : ℕ} {v : View} (h : Here first s id v) (y : ℕ) →
    get_or s.words 0 0 ≤ get_or (set s.words 0 y) 0 0 → get_or (set s.words 0 y) 0 0 < 2 ^ 63 → WordStep h 1 0 y
not_lane h y rises small = record {
  others = λ j ne. ((λ e. omega arith), (λ e. omega arith));
  rises = rises;
  small = small;
}

pub looks : (first n id : ℕ) (me : Seated) → 0 < me.0.share →
    Allows (WorldRule first) n id me 0 (λ y. y) (Looks (step n 0 0 0 none) me)
looks first n id me share s r wide is _ = let h : Here first s id me.0 = record { rule = r; is = is; share = share } in
    let v : View = me.0 in let y : ℕ = get_or s.words 0 0 in let w : View = (saw y me).0 in let two = r.two in
    let near : 1 < length s.homes = omega arith in
    let same = set-get_or s.words 0 0 in let e₀ = ap (λ (ws : List ℕ). get_or ws 0 0) same in
    let p : Plain 1 v w (at 1 v) = record {
      lanes = sym (plain.set_at 1 v);
      known = refl;
      owes = refl;
      stage = inl refl;
      share = refl;
      halvings = refl;
      first = refl;
      stamp = refl;
      stamps = refl;
    } in
    let b = world.begun h 1 near in let m = raises_begun (known_of v 1) (r.logs 1) b in let g = r.generation in
    let small = r.small in
    let ok : LaneOk 1 first (get_or s.words (ticket_word 1) 0) (get_or s.words (serving_word 1) 0)
    (get_elem? s.homes 1) (set (column 1 s.views) id (at 1 v)) (r.logs 1) (r.owners 1) =
    rw (set_again (column 1 s.views) id (at 1 v) (world.here h 1)) (r.lane 1 near) in (
      w,
      keeps,
      tt,
      plain.plainly h 1 near p {k = 0} {y = y} s.homes (r.owners 1) (not_lane h y (omega arith) (omega arith)) refl
          (λ _ _. refl)
          (subst (λ (ws : List ℕ). LaneOk 1 first (get_or ws (ticket_word 1) 0) (get_or ws (serving_word 1) 0)
          (get_elem? s.homes 1) (set (column 1 s.views) id (at 1 v)) (r.logs 1) (r.owners 1)) (sym same) ok)
          (omega arith) (omega arith) (plain.w_raised_ok h 1 near p refl),
      (λ _. ((r.seen id v is).0, omega arith, small, refl, plain.w_consistent h 1 near p)),
    )

pub settled : (first n id : ℕ) (me : Seated) → 0 < me.0.share →
    Allows (WorldRule first) n id me 0 (λ y. y) (Settles (step n 0 0 0 none) me)
settled first n id me share s r wide is _ =
    let h : Here first s id me.0 = record { rule = r; is = is; share = share } in
    let v : View = me.0 in let y : ℕ = get_or s.words 0 0 in let two = r.two in
    let near : 1 < length s.homes = omega arith in
    let same = set-get_or s.words 0 0 in let e₀ = ap (λ (ws : List ℕ). get_or ws 0 0) same in
    let p : Plain 1 v v (at 1 v) = record {
      lanes = sym (plain.set_at 1 v);
      known = refl;
      owes = refl;
      stage = inl refl;
      share = refl;
      halvings = refl;
      first = refl;
      stamp = refl;
      stamps = refl;
    } in
    let seen = (r.seen id v is).0 in let small = r.small in
    let ok : LaneOk 1 first (get_or s.words (ticket_word 1) 0) (get_or s.words (serving_word 1) 0)
    (get_elem? s.homes 1) (set (column 1 s.views) id (at 1 v)) (r.logs 1) (r.owners 1) =
    rw (set_again (column 1 s.views) id (at 1 v) (world.here h 1)) (r.lane 1 near) in (
      v,
      keeps,
      tt,
      plain.plainly h 1 near p {k = 0} {y = y} s.homes (r.owners 1) (not_lane h y (omega arith) (omega arith)) refl
          (λ _ _. refl)
          (subst (λ (ws : List ℕ). LaneOk 1 first (get_or ws (ticket_word 1) 0) (get_or ws (serving_word 1) 0)
          (get_elem? s.homes 1) (set (column 1 s.views) id (at 1 v)) (r.logs 1) (r.owners 1)) (sym same) ok)
          (omega arith) (omega arith) (plain.w_raised_ok h 1 near p refl),
      (refl, (λ whole idle. subst (λ (k : ℕ). Ended k v) (sym (world.sized h).0) (ends_all h whole idle))),
    )

pub raises_generation : (first n id t g : ℕ) (me : Seated) → 0 < me.0.share → (at 1 me.0).stage ≡ Holding t →
    (at 1 me.0).raised ≡ 0 → g ≡ raises (known_of me.0 1) + 1 → g < 2 ^ 63
    → Allows (WorldRule first) n id me 0 (λ _. g) (λ _ m. RaisesGeneration (step n 0 g 0 none) me g m)
raises_generation first n id t g me share hold none' next small s r wide is _ = let h : Here first s id me.0 =
    record { rule = r; is = is; share = share } in let v : View = me.0 in let two = r.two in
    let near : 1 < length s.homes = omega arith in
    let a' : LaneView = raising (at 1 v) in let w : View = (raised g me).0 in
    let p : Plain 1 v w a' = record {
      lanes = refl;
      known = refl;
      owes = refl;
      stage = inl refl;
      share = refl;
      halvings = refl;
      first = refl;
      stamp = refl;
      stamps = refl;
    } in
    let turn = giving.turn h 1 t near hold in let nobody = plain.none_raised h 1 near t refl turn.0 turn.2 none' in
    let now : get_or s.words 0 0 + 1 ≡ g = (let e = r.generation in let q = ap raises turn.3 in omega arith) in
    let far : 0 < length s.words = (let e = r.wide in omega arith) in let w₀ = get_or-set_same s.words 0 g 0 far in
    let w₁ = get_or-set_other s.words 0 (ticket_word 1) g 0 (λ e. omega arith) in let w₂ =
    get_or-set_other s.words 0 (serving_word 1) g 0 (λ e. omega arith) in
    let was = (r.lane 1 near).passes id (at 1 v) (world.here h 1) in
    let ok = lane.recast (r.lane 1 near) id (world.here h 1) a' refl refl refl refl was.loaded was.found refl was.begins
    (λ e. e) in
    let one : (at 1 w).raised ≡ 1 = ap (λ (a : LaneView). a.raised) (plain.w_here h 1 near p) in (
      w,
      keeps,
      tt,
      plain.plainly h 1 near p {k = 0} {y = g} s.homes (r.owners 1) (not_lane h g (omega arith) (omega arith)) refl
          (λ _ _. refl)
          (subst (λ (z : ℕ × ℕ). LaneOk 1 first z.0 z.1 (get_elem? s.homes 1) (set (column 1 s.views) id a') (r.logs 1)
          (r.owners 1)) (λ q. (sym w₁ q, sym w₂ q)) ok)
          (omega arith) (omega arith) (inr (one, (t, ap (λ (a : LaneView). a.stage) (plain.w_here h 1 near p) ∙ hold))),
      (refl, plain.w_consistent h 1 near p),
    )
