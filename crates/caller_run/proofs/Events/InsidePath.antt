-- A caller is the host of its own vgetrandom call. The steps that it makes as the host give the call's path, with the
-- acts at their points.
use Rattle.std.proofs.Common.{◌≡◌, ℕ, zero, suc, ◌<◌, ◌≤◌, ◌⊎◌, inl, inr, Bool, List, [], ◌∷◌, ◌++◌, length, drop, map, refl, sym, ap, subst, arith}
use Rattle.key_names.specs.declared.names.Step.TheVariants.{Look}
use Rattle.key_names.specs.declared.point.Point.{Point}
use Rattle.key_names.specs.declared.point.Point.TheVariants.{Start, Written, Serve, End}
use Rattle.key_names.specs.Kernel.Vgetrandom.{HostStep, publishes, at_point, read, Outcome, IsCall}
use Rattle.key_names.specs.Kernel.VgetrandomState.{VgetrandomState}
use Rattle.key_names.specs.Callers.VreadSteps.{published_by}
use Rattle.lane_table.specs.declared.view.View.{View}
use Rattle.lane_table.specs.WorldRule.{Consistent, known_of}
use Rattle.lane_table.specs.BookLaws.{Continues}
use Rattle.lane_table.specs.Advances.{step_of, floor}
use Rattle.lane_table.proofs.Book.BookEnds.{continues_before, known_lanes}
use Rattle.lane_table.proofs.Lists.VisitLists.{begins_refl}
use Rattle.vdso_state.specs.Host.{DoesAll}
use Rattle.rng_core.specs.declared.vdso.attempt.Attempt.{Attempt}
use Rattle.rng_core.specs.declared.vdso.attempt.Attempt.TheVariants.{Before, First}
use Rattle.rng_core.specs.declared.setting.Setting.{Setting}
use Rattle.rng_core.specs.Acts.{Ask}
use Rattle.rng_core.specs.Acting.{acting, ActPublished, ActPassed}
use Rattle.rng_core.specs.InsideMakes.{bound_acts}
use Rattle.rng_core.proofs.ActRuns.{Onward, onward_then, acts_onward, did_onward}
use Rattle.rng_core.proofs.Makings.{did_look}
use Rattle.caller_run.specs.Items.{Item, vread_items}
use Rattle.caller_run.proofs.Events.ActSteps.{Apart, Untouched, untouched_items}
use Rattle.caller_run.proofs.Events.CallShapes.{AfterPoint, Copies, Rekeys, Fails, Writes, Tries, call_shape}
use Rattle.caller_run.proofs.Orders.InsideOrder.{kept_then, kept_own, kept_at, Path, path_part, quiet_part}
use Rattle.caller_run.proofs.Events.KeyCuts.{key_cut, plain_cut, key_call}
use Rattle.caller_run.proofs.Orders.OwnSteps.{Spot, view_at, spot, Quiet, BeginsUnmarked, at, line_of, items_at, goes_published, goes_answered, goes_passed, OwnSteps, own_nothing, own_then, own_emitted, own_look, next_items, quietly, Reached, reached_not, reached_first}
use Rattle.caller_run.proofs.Orders.PartItems.{Part}

-- if the view w follows the view v, the lists that the pass has seen at w extend those that it had seen at v
known_continues : (v w : View) → Onward v w → 1 < length v.lanes → Consistent w →
    Continues (length w.lanes) v (known_of w)
known_continues v w onward two consistent =
    continues_before (length w.lanes) v w (known_of w) onward.sized onward.grows (record {
      long = refl;
      begins = λ lane low. begins_refl (known_of w lane);
      closed = known_lanes w [] (let e = onward.sized in omega arith) consistent;
    })

module _ (set : Setting) (asks : List Ask) where
  look_onward : (attempt : Attempt) (s t : Spot) (g : ℕ) →
      ActPublished (at set asks attempt s) g (at set asks attempt t) →
      Onward (view_at s) (view_at t)
  look_onward attempt s t g k =
      did_onward set s.moment t.moment (did_look set s.moment t.moment k.core.found k.core.recorded)

  point_onward : (attempt : Attempt) (s t : Spot) (point : Point) (wiped : Bool) →
      ActPassed (at set asks attempt s) point wiped (at set asks First t) → Onward (view_at s) (view_at t)
  point_onward attempt s t point wiped k =
      acts_onward set point asks (view_at s) (view_at t) s.outcomes t.outcomes k.ran

  -- from s to t, after the end of a first attempt, the caller made the steps `items` of its own line
  record Tail (s t : Spot) : Type 0 where
    pub items : List Item
    pub own : OwnSteps set asks s t items
    pub unmarked : BeginsUnmarked (drop 1 items)

  tail : (steps : List HostStep) (s t : Spot) (last : Attempt) → AfterPoint steps →
      DoesAll acting (at set asks First s) steps (at set asks last t) → Tail s t
  tail steps s t last (inl none) does =
      let done = subst (λ (l : List HostStep). DoesAll acting (at set asks First s) l (at set asks last t)) none does in
      record { items = []; own = own_nothing set asks s t (ap spot (sym done)); unmarked = tt }
  tail steps s t last (inr next) does =
      let done = subst (λ (l : List HostStep). DoesAll acting (at set asks First s) l (at set asks last t))
      next.steps_are does in
      let look = goes_published set asks First s next.rest (at set asks last t) next.published done in
      let rest = quietly set asks next.rest First look.0 last t next.quiet look.2 in
      let here = next_items set asks s (Look look.1.core.found ∷ []) in record {
        items = here ++ rest.items;
        own = own_then set asks s look.0 t here rest.items (own_look set asks First s look.0 next.published look.1)
            rest.own;
        unmarked = rest.begins next.looks;
      }

  -- from s to t the call passed the points Serve and End, and then the caller made the steps `items` of its own line
  record Copied (s t : Spot) : Type 0 where
    pub served : Spot
    pub ended : Spot
    pub serve : Reached set asks Serve s served
    pub end : Reached set asks End served ended
    pub items : List Item
    pub own : OwnSteps set asks ended t items
    pub unmarked : BeginsUnmarked items
    pub third : BeginsUnmarked (drop 2 items)
    pub later : View
    pub onward : Onward (view_at s) later
    pub consistent : Consistent later

  copied : (steps : List HostStep) (s t : Spot) (last : Attempt) → Copies steps →
      DoesAll acting (at set asks First s) steps (at set asks last t) → Copied s t
  copied steps s t last c does =
      let to = at set asks last t in
      let done = subst (λ (l : List HostStep). DoesAll acting (at set asks First s) l to) c.steps_are does in
      let serve = goes_passed set asks First s (at_point End c.at_end ∷ publishes c.published ∷ c.rest) to Serve
      c.at_serve done in
      let end = goes_passed set asks First serve.0 (publishes c.published ∷ c.rest) to End c.at_end serve.2 in
      let look = goes_published set asks First end.0 c.rest to c.published end.2 in
      let rest = tail c.rest look.0 t last c.following look.2 in
      let here = next_items set asks end.0 (Look look.1.core.found ∷ []) in record {
        served = serve.0;
        ended = end.0;
        serve = reached_first set asks First s serve.0 Serve c.at_serve serve.1;
        end = reached_first set asks First serve.0 end.0 End c.at_end end.1;
        items = here ++ rest.items;
        own = own_then set asks end.0 look.0 t here rest.items
            (own_look set asks First end.0 look.0 c.published look.1) rest.own;
        unmarked = refl;
        third = rest.unmarked;
        later = view_at look.0;
        onward = onward_then (view_at s) (view_at serve.0) (view_at look.0)
            (point_onward First s serve.0 Serve c.at_serve serve.1)
            (onward_then (view_at serve.0) (view_at end.0) (view_at look.0)
            (point_onward First serve.0 end.0 End c.at_end end.1) (look_onward First end.0 look.0 c.published look.1));
        consistent = look.1.consistent;
      }

  -- from s to `started` the caller made two looks, which found a generation, and then the call passed the point Start
  record Looked (s looked started : Spot) : Type 0 where
    pub first : Item
    pub second : Item
    pub looks : OwnSteps set asks s looked (first ∷ second ∷ [])
    pub start : Reached set asks Start looked started
    pub seen : 1 ≤ floor (view_at started)
    pub two : 1 < length (view_at started).lanes

  module _ (s looked started t : Spot) (last : Attempt) (new : (p : Point) → Untouched p asks s.outcomes)
      (k : Looked s looked started) where
    -- if `steps` follow the point Start in a call that takes no new key (`Copies`), the call from s to t has a path
    -- (`Path`)
    by_copy : (steps : List HostStep) → Copies steps →
        DoesAll acting (at set asks First started) steps (at set asks last t) →
        Path set asks s t
    by_copy steps c does = let d = copied steps started t last c does in record {
      looked = looked;
      started = started;
      written = started;
      keyed = started;
      served = d.served;
      ended = d.ended;
      first = k.first;
      second = k.second;
      rekey = [];
      rest = d.items;
      looks = k.looks;
      start = k.start;
      write = reached_not set asks Written started;
      key = own_nothing set asks started started refl;
      serve = d.serve;
      end = d.end;
      goes_on = d.own;
      cut = inl (plain_cut d.items d.third);
    }

    module _ (written : Spot) (write : Reached set asks Written started written)
        (onward : Onward (view_at started) (view_at written)) where
      -- if `steps` follow the point Written and begin with the read of a new key (`Rekeys`), the call from s to t has a
      -- path
      by_key : (steps : List HostStep) → Rekeys steps →
          DoesAll acting (at set asks First written) steps (at set asks last t) →
          Path set asks s t
      by_key steps c does =
          let to = at set asks last t in
          let done = subst (λ (l : List HostStep). DoesAll acting (at set asks First written) l to) c.steps_are does in
          let call = goes_answered set asks First written c.rest to 32 0 (read c.key c.visit) done in
          let did = call.1.core.did in
          let d = copied c.rest call.0 t last c.copies call.2 in
          let know = did_onward set written.moment call.0.moment did in
          let keys = key_call set (read c.key c.visit) written.moment call.0.moment did (length d.later.lanes)
          (known_of d.later)
          (known_continues (view_at call.0) d.later d.onward
          (let a = k.two in let b = onward.sized in let e = know.sized in omega arith) d.consistent)
          (let a = k.seen in let b = onward.floors in omega arith) in record {
            looked = looked;
            started = started;
            written = written;
            keyed = call.0;
            served = d.served;
            ended = d.ended;
            first = k.first;
            second = k.second;
            rekey = next_items set asks written (map step_of did.made_steps);
            rest = d.items;
            looks = k.looks;
            start = k.start;
            write = write;
            key = own_emitted set asks written call.0 did.made_steps did.recorded call.1.acts.outcomes;
            serve = d.serve;
            end = d.end;
            goes_on = d.own;
            cut = inl (key_cut set.event (length written.moment.steps) (map step_of did.made_steps) d.items keys
                d.unmarked);
          }

      -- if `steps` follow the point Written and begin with a failed read of a new key (`Fails`), the call from s to t
      -- has a path
      by_failure : (steps : List HostStep) → Fails steps →
          DoesAll acting (at set asks First written) steps (at set asks last t) →
          Path set asks s t
      by_failure steps c does =
          let own = quietly set asks steps First written last t (subst (Quiet First) (sym c.steps_are) tt) does in
          record {
            looked = looked;
            started = started;
            written = written;
            keyed = t;
            served = t;
            ended = t;
            first = k.first;
            second = k.second;
            rekey = own.items;
            rest = [];
            looks = k.looks;
            start = k.start;
            write = write;
            key = own.own;
            serve = reached_not set asks Serve t;
            end = reached_not set asks End t;
            goes_on = own_nothing set asks t t refl;
            cut = inr (none Serve refl refl own.items own.own, none End refl refl own.items own.own);
          }
        where
          none : (q : Point) → Apart Start q → Apart Written q → (items : List Item) →
              OwnSteps set asks written t items →
              items_at set asks t q ≡ []
          none q a b items own =
              let all = kept_then set asks q s started t
              (kept_then set asks q s looked started (kept_own set asks q s looked _ k.looks)
              (kept_at set asks q Start looked started a k.start))
              (kept_then set asks q started written t (kept_at set asks q Written started written b write)
              (kept_own set asks q written t items own)) in
              untouched_items set q asks t.outcomes (all.untouched (new q))

    by_writing : (steps : List HostStep) → Writes steps →
        DoesAll acting (at set asks First started) steps (at set asks last t) →
        Path set asks s t
    by_writing steps c does =
        let to = at set asks last t in
        let done = subst (λ (l : List HostStep). DoesAll acting (at set asks First started) l to) c.steps_are does in
        let write = goes_passed set asks First started c.rest to Written c.at_written done in
        go write.0 c.rest (reached_first set asks First started write.0 Written c.at_written write.1)
        (point_onward First started write.0 Written c.at_written write.1) c.keys write.2
      where
        go : (written : Spot) (steps : List HostStep) → Reached set asks Written started written →
            Onward (view_at started) (view_at written) →
            Rekeys steps ⊎ Fails steps → DoesAll acting (at set asks First written) steps (at set asks last t) →
            Path set asks s t
        go written steps write onward (inl c) does = by_key written write onward steps c does
        go written steps write onward (inr c) does = by_failure written write onward steps c does

    by_either : (steps : List HostStep) → Copies steps ⊎ Writes steps →
        DoesAll acting (at set asks First started) steps (at set asks last t) → Path set asks s t
    by_either steps (inl c) does = by_copy steps c does
    by_either steps (inr c) does = by_writing steps c does

  -- if the published generation `g` is at least 1, the core's generation `found` is at least 1
  found_some : (g found : ℕ) → 1 ≤ g → g ≡ published_by found → 1 ≤ found
  found_some g zero ready is = absurd (omega arith)
  found_some g (suc found) ready is = omega arith

  path : (steps : List HostStep) (s t : Spot) (last : Attempt) → 1 < length (view_at s).lanes →
      ((p : Point) → Untouched p asks s.outcomes) → Tries steps →
      DoesAll acting (at set asks Before s) steps (at set asks last t) →
      Path set asks s t
  path steps s t last two new c does =
      let to = at set asks last t in
      let done = subst (λ (l : List HostStep). DoesAll acting (at set asks Before s) l to) c.steps_are does in
      let one = goes_published set asks Before s (publishes c.published ∷ at_point Start c.at_start ∷ c.rest) to
      c.found done in
      let other = goes_published set asks Before one.0 (at_point Start c.at_start ∷ c.rest) to c.published one.2 in
      let start = goes_passed set asks Before other.0 c.rest to Start c.at_start other.2 in
      let a = look_onward Before s one.0 c.found one.1 in
      let b = look_onward Before one.0 other.0 c.published other.1 in
      let e = point_onward Before other.0 start.0 Start c.at_start start.1 in
      by_either s other.0 start.0 t last new (record {
        first = _;
        second = _;
        looks = own_then set asks s one.0 other.0 (next_items set asks s (Look one.1.core.found ∷ []))
            (next_items set asks one.0 (Look other.1.core.found ∷ []))
            (own_look set asks Before s one.0 c.found one.1)
            (own_look set asks Before one.0 other.0 c.published other.1);
        start = reached_first set asks Before other.0 start.0 Start c.at_start start.1;
        seen = (let some = found_some c.found one.1.core.found c.ready one.1.core.is in let f = one.1.core.known in
            let g = b.floors in let h = e.floors in omega arith);
        two = (let f = a.sized in let g = b.sized in let h = e.sized in omega arith);
      }) c.rest c.goes_on start.2

  -- in any vgetrandom call, the steps of the caller and of the acts are in the order of `vread_items`
  pub inside_part : (n flags : ℕ) (state : VgetrandomState) (steps : List HostStep) (outcome : Outcome) (s t : Spot)
      (last : Attempt) →
      1 < length (view_at s).lanes → ((p : Point) → Untouched p asks s.outcomes) → s.moment.steps ≡ [] →
      IsCall n flags state steps outcome → DoesAll acting (at set asks Before s) steps (at set asks last t) →
      Part set.caller (view_at s) (view_at t) (vread_items (line_of set asks t) (bound_acts set asks t.outcomes))
  inside_part n flags state steps outcome s t last two new empty is_call does =
      go (call_shape n flags state steps outcome is_call)
    where
      go : Quiet Before steps ⊎ Tries steps →
          Part set.caller (view_at s) (view_at t) (vread_items (line_of set asks t) (bound_acts set asks t.outcomes))
      go (inl quiet) =
          let own = quietly set asks steps Before s last t quiet does in
          quiet_part set asks s t own.items new empty own.own
      go (inr tries) = path_part set asks s t new empty (path steps s t last two new tries does)
