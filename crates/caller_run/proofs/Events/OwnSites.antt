-- A caller calls the core at a site, which borrows the caller's pass. Facts about the site after a call hold for the
-- caller.
use Rattle.std.proofs.Common.{◌≡◌, ◌≤◌, ℕ, List, [], refl, sym, subst}
use Rattle.key_names.specs.declared.entries.BaseEntry.TheVariants.{End, Stall, Unstall}
use Rattle.key_names.specs.declared.names.Step.{Step}
use Rattle.key_names.specs.Callers.Forms.{BaseOnly}
use Rattle.lane_table.specs.declared.lanes.Lanes.{Lanes}
use Rattle.lane_table.specs.declared.lanes.Pass.{Pass}
use Rattle.lane_table.specs.declared.view.View.{View}
use Rattle.lane_table.specs.Calls.{view}
use Rattle.lane_table.specs.Hands.{HoldsLanes}
use Rattle.rng_core.specs.declared.setting.Setting.{Setting}
use Rattle.rng_core.specs.declared.site.Site.{Site}
use Rattle.rng_core.specs.Forks.{Forked}
use Rattle.rng_core.specs.Makes.{Makes}
use Rattle.rng_core.specs.Sites.{Does, HasInHands, Same, at, base_lane, lane_of, seen_by}
use Rattle.rng_core.specs.Traces.{moment, knowing}
use Rattle.caller_run.specs.declared.making.states.States.{States}
use Rattle.std.specs.Global.{Box}
use Rattle.caller_run.specs.Calling.{HasLeft}
use Rattle.caller_run.specs.RunningCallers.{AtFork, RanHere}

-- if a caller's site holds no lane after the call, the caller's pass holds no lane
pub own_hands : {m n : Site} → Same m n → HasInHands [] n → HoldsLanes m.lanes.now m.set.caller [] n.pass.now
own_hands {m = m} {n = n} same has =
    subst (λ (set : Setting). HoldsLanes m.lanes.now set.caller [] n.pass.now) same.set
    (subst (λ (t : Lanes). HoldsLanes t n.set.caller [] n.pass.now) same.lanes has)

pub lent_hands : {t : Lanes} {caller : ℕ} {p q : Pass} → p ≡ q → HoldsLanes t caller [] q → HoldsLanes t caller [] p
lent_hands {t = t} {caller = caller} is has = subst (λ (p : Pass). HoldsLanes t caller [] p) (sym is) has

pub given_hands : {m n : Site} {caller : ℕ} {p : Pass} → Same m n → HoldsLanes n.lanes.now caller [] p →
    HoldsLanes m.lanes.now caller [] p
given_hands {caller = caller} {p = p} same has = subst (λ (t : Lanes). HoldsLanes t caller [] p) same.lanes has

-- if a caller's last visit was made at a site of this caller, `HasLeft` holds for the caller
pub has_left : {m n : Site} {states : Box States} {p : Pass} {steps : List Step} → p ≡ n.pass.now → steps ≡ n.trace.now →
    m.trace.now ≡ [] → Does 1 (BaseOnly End) m n → seen_by n ≤ (lane_of n base_lane).base.generation →
    HasLeft m.lanes.now (record { pass = m.pass.now; set = m.set; states = states })
    (record { pass = p; set = m.set; states = states }) steps
has_left {m = m} {n = n} pass trace new done reached = rw pass (rw trace (record {
  has = own_hands done.same done.has;
  set = refl;
  reached = reached;
  did = subst (λ (l : List Step). Makes (BaseOnly End) m.set (moment m.pass.now l) (moment n.pass.now n.trace.now)) new
      done.did;
}))

-- if the visit of a fork was made at a site of the parent, `AtFork` holds for the parent
pub at_fork : (m n : Site) {states : Box States} {p theirs : Pass} {steps : List Step} {child : ℕ} → p ≡ n.pass.now →
    steps ≡ n.trace.now → m.trace.now ≡ [] → Forked m.set (at m) n.trace.now child n.pass.now theirs →
    AtFork (record { pass = m.pass.now; set = m.set; states = states })
    (record { pass = p; set = m.set; states = states }) steps child theirs
at_fork m n {theirs = theirs} {child = child} pass trace new forked = rw pass (rw trace (record {
  set = refl;
  states = refl;
  forked = subst (λ (l : List Step). Forked m.set (moment m.pass.now l) n.trace.now child n.pass.now theirs) new forked;
}))

-- if the two visits around a child's run in its parent's thread were made at a site of the parent, `RanHere` holds for
-- the parent
pub ran_here : {l m n : Site} {v : View} {steps : List Step} → v ≡ view n.pass.now → steps ≡ n.trace.now →
    Does 1 (BaseOnly Stall) l m → Does 1 (BaseOnly Unstall) m n →
    RanHere l.set (at l) (knowing v steps)
ran_here {m = m} {n = n} pass trace stalls unstalls = rw pass (rw trace (record {
  middle = at m;
  stall = stalls.did;
  unstall = subst (λ (set : Setting). Makes (BaseOnly Unstall) set (at m) (at n)) stalls.same.set unstalls.did;
}))
