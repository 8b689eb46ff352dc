-- If parts of a call follow one another, together they are one part of the call (`Leads`, `Ends`, `CameTo`).
use Rattle.std.proofs.Common.{◌≡◌, ℕ, ◌≤◌, Bool, List, [], ◌∷◌, ◌++◌, refl, sym, ap, subst, ◌∙◌, append_assoc, arith}
use Rattle.key_names.specs.declared.entries.VEntry.{VEntry}
use Rattle.key_names.specs.Kernel.Vgetrandom.{HostStep, publishes, system_call, at_point, Attempt, AttemptEnd, holds, outdated, not_keyed, Outcome, prefix_outcome, prefix_attempt, wipe_entry, AtPoint, AfterAttempt}
use Rattle.key_names.specs.Kernel.VgetrandomState.{VgetrandomState, state_left}
use Rattle.key_names.specs.Callers.VreadSteps.{PointReached, points_of}
use Rattle.vdso_state.specs.declared.place.Turn.{Turn}
use Rattle.vdso_state.specs.declared.place.Place.{Place}
use Rattle.vdso_state.specs.declared.place.Came.{Came}
use Rattle.vdso_state.specs.declared.place.Came.TheVariants.{At, Ended}
use Rattle.vdso_state.specs.Host.{Doings, DoesAll}
use Rattle.vdso_state.specs.Call.{Finish}
use Rattle.vdso_state.specs.Places.{FromPoint, IfOutdated, RestOf, AfterPlace, AtPlace, Climbs, last_look, Leads, Ends, CameTo, MayGoOn}

climbs_below : (a b c : ℕ) (xs : List HostStep) → a ≤ b → Climbs b c xs → Climbs a c xs
climbs_below a b c [] low h = omega arith
climbs_below a b c (publishes g ∷ xs) low h = let k = h.0 in (omega arith, h.1)
climbs_below a b c (system_call n flags answer ∷ xs) low h = climbs_below a b c xs low h
climbs_below a b c (at_point point wiped ∷ xs) low h = climbs_below a b c xs low h

pub climbs_append : (a b c : ℕ) (xs ys : List HostStep) → Climbs a b xs → Climbs b c ys → Climbs a c (xs ++ ys)
climbs_append a b c [] ys h k = climbs_below a b c ys h k
climbs_append a b c (publishes g ∷ xs) ys h k = (h.0, climbs_append g b c xs ys h.1 k)
climbs_append a b c (system_call n flags answer ∷ xs) ys h k = climbs_append a b c xs ys h k
climbs_append a b c (at_point point wiped ∷ xs) ys h k = climbs_append a b c xs ys h k

pub points_append : (xs ys : List HostStep) → points_of (xs ++ ys) ≡ points_of xs ++ points_of ys
points_append [] ys = refl
points_append (publishes g ∷ xs) ys = points_append xs ys
points_append (system_call n flags answer ∷ xs) ys = points_append xs ys
points_append (at_point point wiped ∷ xs) ys =
    let reached : PointReached = record { point = point; wiped = wiped } in
    ap (λ (ps : List PointReached). reached ∷ ps) (points_append xs ys)

pub last_look_append : (look : ℕ) (xs ys : List HostStep) → last_look look (xs ++ ys) ≡ last_look (last_look look xs) ys
last_look_append look [] ys = refl
last_look_append look (publishes g ∷ xs) ys = last_look_append g xs ys
last_look_append look (system_call n flags answer ∷ xs) ys = last_look_append look xs ys
last_look_append look (at_point point wiped ∷ xs) ys = last_look_append look xs ys

-- if these steps may follow `attempt`, they may still follow it with `entries` put in front of its entries
pub after_same : (n flags : ℕ) (Outdated : ℕ → VgetrandomState → List HostStep → Outcome → Type 0) (end : AttemptEnd)
    (attempt : Attempt) (entries : List VEntry) (steps : List HostStep) (outcome : Outcome) →
    AfterAttempt n flags Outdated end attempt steps outcome →
    AfterAttempt n flags Outdated end (prefix_attempt entries attempt) steps outcome
after_same n flags Outdated holds attempt entries steps outcome r = r
after_same n flags Outdated outdated attempt entries steps outcome r = r
after_same n flags Outdated not_keyed attempt entries steps outcome r = r

module _ {H : Type 0} (host : Doings H) (floor : H → ℕ) where
  pub does_append : (h mid last : H) (xs ys : List HostStep) → DoesAll host h xs mid → DoesAll host mid ys last →
      DoesAll host h (xs ++ ys) last
  does_append h mid last [] ys before after = subst (λ (k : H). DoesAll host k ys last) (sym before) after
  does_append h mid last (x ∷ xs) ys before after =
      (before.0, before.1, does_append before.0 mid last xs ys before.2 after)

  -- if `To` implies `From`, then `From` leads to `To` (`Leads`) without a step
  abbrev pub says : (From To : List HostStep → Outcome → Type 0) (h : H) →
      ((steps : List HostStep) (outcome : Outcome) → To steps outcome → From steps outcome) →
      Leads host floor From To h h
  says From To h said = record { steps = []; entries = []; does = refl; climbs = omega arith; leads = said }

  -- `From` leads to itself without a step
  pub stays : (From : List HostStep → Outcome → Type 0) (h : H) → Leads host floor From From h h
  stays From h = says From From h (λ steps outcome r. r)

  module _ (From Mid : List HostStep → Outcome → Type 0) (h mid : H) (first : Leads host floor From Mid h mid) where
    abbrev pub then_leads : (To : List HostStep → Outcome → Type 0) (last : H) → Leads host floor Mid To mid last →
        Leads host floor From To h last
    then_leads To last second = record {
      steps = first.steps ++ second.steps;
      entries = first.entries ++ second.entries;
      does = does_append h mid last first.steps second.steps first.does second.does;
      climbs = climbs_append (floor h) (floor mid) (floor last) first.steps second.steps first.climbs second.climbs;
      leads = λ rest outcome r.
          let k = first.leads (second.steps ++ rest) (prefix_outcome second.entries outcome)
          (second.leads rest outcome r) in
          subst (λ (xs : List HostStep). From xs (prefix_outcome (first.entries ++ second.entries) outcome))
          (sym (append_assoc first.steps second.steps rest))
          (subst (λ (es : List VEntry). From (first.steps ++ (second.steps ++ rest)) (record outcome { entries = es }))
          (sym (append_assoc first.entries second.entries outcome.entries)) k);
    }

    abbrev pub then_ends : (last : H) (finish : Finish) → Ends host floor Mid mid last finish →
        Ends host floor From h last finish
    then_ends last finish second = record {
      runs = record {
        steps = first.steps ++ second.runs.steps;
        outcome = prefix_outcome first.entries second.runs.outcome;
        does = does_append h mid last first.steps second.runs.steps first.does second.runs.does;
        relates = first.leads second.runs.steps second.runs.outcome second.runs.relates;
        state = second.runs.state;
        ends = second.runs.ends;
      };
      climbs = climbs_append (floor h) (floor mid) (floor last) first.steps second.runs.steps first.climbs
          second.climbs;
    }

    pub then_came : points_of first.steps ≡ [] → (n flags look : ℕ) (came : Came) (last : H) (s : VgetrandomState)
        (buf : List ℕ) →
        CameTo host floor Mid n flags (last_look look first.steps) came mid last s buf →
        CameTo host floor From n flags look came h last s buf
    then_came quiet n flags look (At place) last s buf second = (
      then_leads (AtPlace n flags place buf s) last second.0,
      points_append first.steps second.0.steps ∙ (λ i. quiet i ++ second.1 i),
      second.2 ∙ sym (last_look_append look first.steps second.0.steps),
    )
    then_came quiet n flags look (Ended result) last s buf second = (
      then_ends last (record { state = s; result = result; buf = buf }) second.0,
      points_append first.steps second.0.runs.steps ∙ (λ i. quiet i ++ second.1 i),
    )

  -- if steps lead from `From` to `To` in an attempt, these steps lead from `From` to `To` in the whole call too
  abbrev pub in_call : (turn : Turn) (n flags : ℕ) (From To : List HostStep → Attempt → Type 0) (h next : H)
      (steps : List HostStep) (entries : List VEntry) → DoesAll host h steps next →
      Climbs (floor h) (floor next) steps →
      ((rest : List HostStep) (attempt : Attempt) → To rest attempt →
      From (steps ++ rest) (prefix_attempt entries attempt)) →
      Leads host floor (RestOf turn n flags From) (RestOf turn n flags To) h next
  in_call turn n flags From To h next steps entries does climbs onward = record {
    steps = steps;
    entries = entries;
    does = does;
    climbs = climbs;
    leads = λ rest outcome r. record {
      tried = steps ++ r.tried;
      rest = r.rest;
      attempt = prefix_attempt entries r.attempt;
      outcome_after = r.outcome_after;
      steps_are = ap (λ (xs : List HostStep). steps ++ xs) r.steps_are
          ∙ sym (append_assoc steps r.tried r.rest);
      tries = onward r.tried r.attempt r.tries;
      goes_on = after_same n flags (IfOutdated turn n flags) r.attempt.end r.attempt entries r.rest r.outcome_after
          r.goes_on;
      outcome_is = ap (prefix_outcome entries) r.outcome_is
          ∙ ap (λ (es : List VEntry). record r.outcome_after { entries = es })
          (sym (append_assoc entries r.attempt.entries r.outcome_after.entries));
    };
  }

  -- if the events at the point of `place` take the host from `h` to `next`, `AtPlace` leads to `AfterPlace`
  abbrev pub at_leads : (n flags : ℕ) (place : Place) (out : List ℕ) (s t : VgetrandomState) (wiped : Bool) (h next : H) →
      t ≡ state_left wiped s → host.passes_as h place.point wiped next → floor h ≤ floor next →
      Leads host floor (AtPlace n flags place out s) (AfterPlace n flags place out t) h next
  at_leads n flags place out s t wiped h next is passes more =
      in_call place.turn n flags
      (AtPoint place.point (FromPoint place.point n place.next_block place.published out) s)
      (FromPoint place.point n place.next_block place.published out t) h next
      (at_point place.point wiped ∷ []) (wipe_entry wiped) (next, passes, refl) more
      (λ rest attempt r. record {
        wiped = wiped;
        rest = rest;
        attempt_after = attempt;
        steps_are = refl;
        goes_on = subst (λ (u : VgetrandomState). FromPoint place.point n place.next_block place.published out u rest
            attempt) is r;
        attempt_is = refl;
      })

-- if the host has the same numbers of looks and system calls left, and its floor (the least generation that it may
-- publish) has not fallen, `MayGoOn` still holds
pub still_may : (place : Place) (looks calls floor looks_then calls_then floor_then : ℕ) →
    MayGoOn place looks calls floor → looks_then ≡ looks → calls_then ≡ calls → floor ≤ floor_then →
    MayGoOn place looks_then calls_then floor_then
still_may place looks calls floor looks_then calls_then floor_then may same_looks same_calls more = record {
  looks_are = let k = may.looks_are in omega arith;
  calls_are = let k = may.calls_are in omega arith;
  ready = may.ready;
  known = let k = may.known in omega arith;
  near = may.near;
}
