-- A vgetrandom call that is run to a point of an attempt stops at that point, or ends before that point.
use Rattle.std.proofs.Common.{◌≡◌, ℕ, ◌≤◌, Bool, true, false, Option, Some, None, List, [], ◌∷◌, ◌++◌, refl, sym, ap, ◌∙◌, append_assoc}
use Rattle.std.specs.Prelude.{Result, ◌==◌, if◌then◌else◌}
use Rattle.key_names.specs.declared.errno.Errno.{Errno}
use Rattle.key_names.specs.declared.point.Point.{Point}
use Rattle.key_names.specs.declared.point.Point.TheVariants.{Start, Written, Serve, End}
use Rattle.key_names.specs.Kernel.Vgetrandom.{HostStep, at_point, Outcome}
use Rattle.key_names.specs.Kernel.VgetrandomState.{VgetrandomState, state_left}
use Rattle.key_names.specs.Kernel.Points.{is_same_point}
use Rattle.key_names.proofs.Points.{same_point}
use Rattle.std.proofs.lemmas.Bool.{and_parts}
use Rattle.key_names.specs.Callers.VreadSteps.{PointReached, points_of}
use Rattle.vdso_state.specs.declared.outcome.VEnd.{VEnd}
use Rattle.vdso_state.specs.declared.place.Turn.{Turn}
use Rattle.vdso_state.specs.declared.place.Turn.TheVariants.{First, Second}
use Rattle.vdso_state.specs.declared.place.Place.{Place}
use Rattle.vdso_state.specs.declared.place.Came.TheVariants.{At, Ended}
use Rattle.vdso_state.specs.Host.{Doings}
use Rattle.vdso_state.specs.Turns.{turn_number, turns_before}
use Rattle.vdso_state.specs.Places.{AfterPlace, AtPlace, last_look, Leads, CameTo}
use Rattle.vdso_state.proofs.Leading.{points_append, last_look_append, says, then_leads, then_ends, at_leads}
use Rattle.vcall_fork.specs.declared.stage.Stage.{Stage}
use Rattle.vcall_fork.specs.declared.stage.Stage.TheVariants.{At as ConformsAt, Over}
use Rattle.vcall_fork.specs.Stops.{turn_at, is_wanted, passes_by, Misses, Stopped, EndedBefore, CameAt, CameToEnd}

-- at `point` of the attempt `turn`, the number of attempts that have begun is the number of `turn`
turn_is : (turn : Turn) (point : Point) → turn_at (turns_before turn point) point ≡ turn_number turn
turn_is First Start = refl
turn_is First Written = refl
turn_is First Serve = refl
turn_is First End = refl
turn_is Second Start = refl
turn_is Second Written = refl
turn_is Second Serve = refl
turn_is Second End = refl

-- two attempts with the same number are equal
same_turn : (a b : Turn) → (turn_number a == turn_number b) ≡ true → a ≡ b
same_turn First First h = refl
same_turn First Second h = absurd (cc h)
same_turn Second First h = absurd (cc h)
same_turn Second Second h = refl

pub wanted_is : (turn t : Turn) (point p : Point) → is_wanted turn point (turn_number t) p ≡ true →
    (t ≡ turn) × (p ≡ point)
wanted_is turn t point p h =
    let k = and_parts (turn_number t == turn_number turn) (is_same_point p point) h in
    (same_turn t turn k.0, same_point p point k.1)

if_none : (b : Bool) (o : Option ℕ) (mid : ℕ) → (if b then None else o) ≡ Some mid → (b ≡ false) × (o ≡ Some mid)
if_none true o mid h = absurd (cc h)
if_none false o mid h = (refl, h)

module _ (turn : Turn) (point : Point) where
  passes_on : (begun mid : ℕ) (xs ys : List PointReached) → passes_by turn point begun xs ≡ Some mid →
      passes_by turn point begun (xs ++ ys) ≡ passes_by turn point mid ys
  passes_on begun mid [] ys h = let e : begun ≡ mid = cc in ap (λ (k : ℕ). passes_by turn point k ys) e
  passes_on begun mid (x ∷ xs) ys h =
      let now = turn_at begun x.point in
      let k = if_none (is_wanted turn point now x.point) (passes_by turn point now xs) mid h in
      ap (λ (b : Bool). if b then None else passes_by turn point now (xs ++ ys)) k.0
      ∙ passes_on now mid xs ys k.1

  -- if the steps `xs` do not reach the wanted point, and `ys` has no point, then `xs ++ ys` does not reach it
  quiet_on : (begun mid : ℕ) (xs ys : List HostStep) → passes_by turn point begun (points_of xs) ≡ Some mid →
      points_of ys ≡ [] → passes_by turn point begun (points_of (xs ++ ys)) ≡ Some mid
  quiet_on begun mid xs ys h quiet =
      ap (passes_by turn point begun) (points_append xs ys) ∙ passes_on begun mid (points_of xs) (points_of ys) h
      ∙ ap (passes_by turn point mid) quiet

  pub quiet : (begun : ℕ) (xs : List HostStep) → points_of xs ≡ [] → passes_by turn point begun (points_of xs) ≡
      Some begun
  quiet begun xs none = ap (passes_by turn point begun) none

  -- suppose that the steps `xs` do not reach the wanted point, that the point `p` after them is another one, and that
  -- `ys` has no point. Then `xs`, `p` and `ys` together do not reach the wanted point
  point_on : (begun : ℕ) (t : Turn) (p : Point) (wiped : Bool) (xs ys : List HostStep) →
      passes_by turn point begun (points_of xs) ≡ Some (turns_before t p) →
      is_wanted turn point (turn_number t) p ≡ false → points_of ys ≡ [] →
      passes_by turn point begun (points_of (xs ++ at_point p wiped ∷ ys)) ≡ Some (turn_number t)
  point_on begun t p wiped xs ys h other none =
      let zs = at_point p wiped ∷ ys in
      ap (passes_by turn point begun) (points_append xs zs)
      ∙ passes_on begun (turns_before t p) (points_of xs) (points_of zs) h
      ∙ ap (λ (k : ℕ). if is_wanted turn point k p then None else passes_by turn point k (points_of ys)) (turn_is t p)
      ∙ ap (λ (b : Bool). if b then None else passes_by turn point (turn_number t) (points_of ys)) other
      ∙ ap (passes_by turn point (turn_number t)) none

  module _ {H : Type 0} (host : Doings H) (floor : H → ℕ) (From : List HostStep → Outcome → Type 0) (n flags : ℕ)
      (begun look : ℕ) where
    -- a call came to the place `at`, and did not reach the wanted point before. `at` has the generation that the call
    -- last found published
    pub record Walked (at : Place) (h next : H) (s : VgetrandomState) (buf : List ℕ) : Type 0 where
      pub leads : Leads host floor From (AtPlace n flags at buf s) h next
      pub passes : passes_by turn point begun (points_of leads.steps) ≡ Some (turns_before at.turn at.point)
      pub found : at.published ≡ last_look look leads.steps

    module _ (at : Place) (h mid following : H) (s t : VgetrandomState) (buf : List ℕ) (wiped : Bool)
        (walked : Walked at h mid s buf) (left : t ≡ state_left wiped s)
        (passed : host.passes_as mid at.point wiped following) (more : floor mid ≤ floor following)
        (other : is_wanted turn point (turn_number at.turn) at.point ≡ false) where
      abbrev to_after : Leads host floor From (AfterPlace n flags at buf t) h following
      to_after = then_leads host floor From (AtPlace n flags at buf s) h mid walked.leads
          (AfterPlace n flags at buf t) following
          (at_leads host floor n flags at buf s t wiped mid following left passed more)

      pub walk_on : (next : Place) (last : H) (u : VgetrandomState) (buf_then : List ℕ) →
          CameTo host floor (AfterPlace n flags at buf t) n flags at.published (At next) following last u buf_then →
          turns_before next.turn next.point ≡ turn_number at.turn → Walked next h last u buf_then
      walk_on next last u buf_then came turns = record {
        leads = then_leads host floor From (AfterPlace n flags at buf t) h following to_after
            (AtPlace n flags next buf_then u) last came.0;
        passes = ap (λ (xs : List HostStep). passes_by turn point begun (points_of xs))
            (append_assoc walked.leads.steps (at_point at.point wiped ∷ []) came.0.steps)
            ∙ point_on begun at.turn at.point wiped walked.leads.steps came.0.steps walked.passes other came.1
            ∙ ap (λ (k : ℕ). Some k) (sym turns);
        found = came.2
            ∙ ap (λ g. last_look g came.0.steps)
            (walked.found ∙ sym (last_look_append look walked.leads.steps (at_point at.point wiped ∷ [])))
            ∙ sym (last_look_append look (walked.leads.steps ++ at_point at.point wiped ∷ []) came.0.steps);
      }

      pub walk_to_end : (result : Result VEnd Errno) (last : H) (u : VgetrandomState) (buf_then : List ℕ) →
          CameTo host floor (AfterPlace n flags at buf t) n flags at.published (Ended result) following last u buf_then →
          CameToEnd host floor From turn point begun result h last u buf_then
      walk_to_end result last u buf_then came = record {
        ends = then_ends host floor From (AfterPlace n flags at buf t) h following to_after last
            (record { state = u; result = result; buf = buf_then }) came.0;
        misses = record {
          following = turn_number at.turn;
          passes = ap (λ (xs : List HostStep). passes_by turn point begun (points_of xs))
              (append_assoc walked.leads.steps (at_point at.point wiped ∷ []) came.0.runs.steps)
              ∙ point_on begun at.turn at.point wiped walked.leads.steps came.0.runs.steps walked.passes other came.1;
        };
      }

  module _ {H : Type 0} (host : Doings H) (floor : H → ℕ) (From : List HostStep → Outcome → Type 0) (n flags : ℕ)
      (begun look : ℕ) where
    pub walk_starts : (at : Place) (h : H) (s : VgetrandomState) (buf : List ℕ) →
        Walked host floor (AtPlace n flags at buf s) n flags (turns_before at.turn at.point) at.published at h h s buf
    walk_starts at h s buf = record {
      leads = says host floor (AtPlace n flags at buf s) (AtPlace n flags at buf s) h (λ steps outcome r. r);
      passes = refl;
      found = refl;
    }

    module _ (at : Place) (h mid : H) (s : VgetrandomState) (buf : List ℕ)
        (came : CameTo host floor From n flags look (At at) h mid s buf)
        (turns : turns_before at.turn at.point ≡ begun) where
      first_quiet : (xs ys : List HostStep) → points_of xs ≡ [] →
          (misses : Misses turn point (turns_before at.turn at.point) ys) →
          passes_by turn point begun (points_of (xs ++ ys)) ≡ Some misses.following
      first_quiet xs ys none misses = ap (passes_by turn point begun) (points_append xs ys)
          ∙ passes_on begun begun (points_of xs) (points_of ys) (quiet begun xs none)
          ∙ ap (λ (k : ℕ). passes_by turn point k (points_of ys)) (sym turns) ∙ misses.passes

      -- if a call came to the place `at`, and from there to the wanted point at `place`, it is stopped at that point
      pub stops : (place : Place) (last : H) (u : VgetrandomState) (buf_then : List ℕ) (stage : Stage) →
          stage ≡ ConformsAt place →
          (looks calls : ℕ) →
          CameAt host floor (AtPlace n flags at buf s) n flags turn point (turns_before at.turn at.point) at.published
          place looks calls mid last u buf_then →
          Stopped host floor From n flags turn point begun look stage looks calls h last u buf_then
      stops place last u buf_then stage is looks calls k = record {
        place = place;
        stage_is = is;
        turn_is = (wanted_is turn place.turn point place.point k.wanted).0;
        point_is = (wanted_is turn place.turn point place.point k.wanted).1;
        may = k.may;
        leads = then_leads host floor From (AtPlace n flags at buf s) h mid came.0 (AtPlace n flags place buf_then u)
            last k.leads;
        misses = record {
          following = k.misses.following;
          passes = first_quiet came.0.steps k.leads.steps came.1 k.misses;
        };
        found = k.found ∙ ap (λ g. last_look g k.leads.steps) came.2
            ∙ sym (last_look_append look came.0.steps k.leads.steps);
      }

      pub ends_before : (result : Result VEnd Errno) (last : H) (u : VgetrandomState) (buf_then : List ℕ)
          (stage : Stage) → stage ≡ Over →
          CameToEnd host floor (AtPlace n flags at buf s) turn point (turns_before at.turn at.point) result mid last u
          buf_then →
          EndedBefore host floor From turn point begun stage result h last u buf_then
      ends_before result last u buf_then stage is k = record {
        over = is;
        ends = then_ends host floor From (AtPlace n flags at buf s) h mid came.0 last
            (record { state = u; result = result; buf = buf_then }) k.ends;
        misses = record {
          following = k.misses.following;
          passes = first_quiet came.0.steps k.ends.runs.steps came.1 k.misses;
        };
      }

    -- a call that ended before it reached any point ended before it reached the wanted point
    pub ends_at_once : (result : Result VEnd Errno) (h last : H) (u : VgetrandomState) (buf : List ℕ) (stage : Stage) →
        stage ≡ Over → CameTo host floor From n flags look (Ended result) h last u buf →
        EndedBefore host floor From turn point begun stage result h last u buf
    ends_at_once result h last u buf stage is came = record {
      over = is;
      ends = came.0;
      misses = record { following = begun; passes = quiet begun came.0.runs.steps came.1 };
    }
