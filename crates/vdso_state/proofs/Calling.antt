-- The first steps of a vgetrandom call lead to its first point or to its end.
use Rattle.std.proofs.Common.{◌≡◌, ◌≢◌, ℕ, ◌≤◌, true, false, List, [], ◌∷◌, refl, subst, Ok, arith}
use Rattle.std.proofs.lemmas.Bool.{eq-eqb}
use Rattle.key_names.specs.declared.point.Point.TheVariants.{Start}
use Rattle.key_names.specs.Kernel.Flags.{is_bad}
use Rattle.key_names.specs.Kernel.VgetrandomState.{VgetrandomState}
use Rattle.key_names.specs.Kernel.Vgetrandom.{HostStep, publishes, Outcome, no_bytes, AtPoint, FromStart, IsAttempt, BySystem, FirstAttempt, FromPublished, IsCall}
use Rattle.key_names.proofs.Vgetrandom.Attempts.{match_true, match_false}
use Rattle.vdso_state.specs.declared.outcome.VEnd.TheVariants.{Zero}
use Rattle.vdso_state.specs.declared.place.Turn.TheVariants.{First}
use Rattle.vdso_state.specs.declared.place.Came.{Came}
use Rattle.vdso_state.specs.declared.place.Came.TheVariants.{At, Ended}
use Rattle.vdso_state.specs.Host.{Doings}
use Rattle.vdso_state.specs.Call.{Finish}
use Rattle.vdso_state.specs.Places.{Ends, CameTo}
use Rattle.vdso_state.proofs.Leading.{in_call, says, then_came}
use Rattle.vdso_state.proofs.Stepping.{ne-eqb, asks_at_once}

module _ {H : Type 0} (host : Doings H) (floor : H → ℕ) (n flags look : ℕ) where
  -- if `BySystem` implies `From`, and the call ends with `finish` under `BySystem`, then it ends with `finish` under
  -- `From`
  said_asked : (From : List HostStep → Outcome → Type 0) (s : VgetrandomState) (h last : H) (finish : Finish) →
      ((steps : List HostStep) (outcome : Outcome) → BySystem n flags s steps outcome → From steps outcome) →
      Ends host floor (BySystem n flags s) h last finish →
      CameTo host floor From n flags look (Ended finish.result) h last finish.state finish.buf
  said_asked From s h last finish said ends =
      then_came host floor From (BySystem n flags s) h h (says host floor From (BySystem n flags s) h said) refl
      n flags look (Ended finish.result) last finish.state finish.buf
      (ends, asks_at_once host floor n flags s h last finish ends)

  pub bad_flags : (s : VgetrandomState) (h last : H) (finish : Finish) → is_bad flags ≡ true →
      Ends host floor (BySystem n flags s) h last finish →
      CameTo host floor (IsCall n flags s) n flags look (Ended finish.result) h last finish.state finish.buf
  bad_flags s h last finish bad ends =
      said_asked (IsCall n flags s) s h last finish (λ steps outcome r. match_true _ _ _ bad r) ends

  -- suppose that the flags are good, that the first look finds `published`, and that the rest of the call after this
  -- look leads to `came`. Then the whole call leads to `came`
  pub looked_then : (published : ℕ) (s : VgetrandomState) (h next last : H) (came : Came) (t : VgetrandomState)
      (buf : List ℕ) → is_bad flags ≡ false → host.publishes_as h published next → floor h ≤ published →
      published ≤ floor next →
      CameTo host floor (FromPublished n flags s published) n flags published came next last t buf →
      CameTo host floor (IsCall n flags s) n flags look came h last t buf
  looked_then published s h next last came t buf good found low high =
      then_came host floor (IsCall n flags s) (FromPublished n flags s published) h next
      (record {
        steps = publishes published ∷ [];
        entries = [];
        does = (next, found, refl);
        climbs = (low, high);
        leads = λ rest outcome r. match_false _ _ _ good
            (record { published = published; rest = rest; steps_are = refl; goes_on = r });
      }) refl n flags look came last t buf

  module _ (published : ℕ) (s : VgetrandomState) (h last : H) where
    pub not_ready : (finish : Finish) → published ≡ 0 → Ends host floor (BySystem n flags s) h last finish →
        CameTo host floor (FromPublished n flags s published) n flags look (Ended finish.result) h last finish.state
        finish.buf
    not_ready finish unready ends = said_asked (FromPublished n flags s published) s h last finish
        (λ steps outcome r. match_true _ _ _ (eq-eqb published 0 unready) r) ends

    pub already_in_use : (finish : Finish) → published ≢ 0 → n ≢ 0 → s.in_use ≡ true →
        Ends host floor (BySystem n flags s) h last finish →
        CameTo host floor (FromPublished n flags s published) n flags look (Ended finish.result) h last finish.state
        finish.buf
    already_in_use finish ready some busy ends = said_asked (FromPublished n flags s published) s h last finish
        (λ steps outcome r. match_false _ _ _ (ne-eqb published 0 ready) (match_false _ _ _ (ne-eqb n 0 some)
        (match_true _ _ _ busy r))) ends

    -- if a generation is published, `n` is not 0 and the state is not in use, the call reaches the first point of its
    -- first attempt
    pub tries : (t : VgetrandomState) (g : ℕ) (buf : List ℕ) → published ≢ 0 → n ≢ 0 → s.in_use ≡ false →
        t ≡ record s { in_use = true } → host.publishes_as h g last → floor h ≤ g → g ≤ floor last →
        CameTo host floor (FromPublished n flags s published) n flags look
        (At (record { turn = First; point = Start; published = g; next_block = 0 })) h last t buf
    tries t g buf ready some free is found low high =
        then_came host floor (FromPublished n flags s published) (FirstAttempt n flags t) h h
        (says host floor (FromPublished n flags s published) (FirstAttempt n flags t) h (λ steps outcome r.
        match_false _ _ _ (ne-eqb published 0 ready) (match_false _ _ _ (ne-eqb n 0 some) (match_false _ _ _ free
        (subst (λ (u : VgetrandomState). FirstAttempt n flags u steps outcome) is r))))) refl n flags look
        (At (record { turn = First; point = Start; published = g; next_block = 0 })) last t buf (
          in_call host floor First n flags (IsAttempt n 0 t) (AtPoint Start (FromStart n 0 g) t) h last
              (publishes g ∷ []) [] (last, found, refl) (low, high)
              (λ rest attempt r. record { published = g; rest = rest; steps_are = refl; goes_on = r }),
          refl,
          refl,
        )

  -- if a generation is published, a call for no bytes ends without a further step
  pub nothing_done : (published : ℕ) (s : VgetrandomState) (h : H) (buf : List ℕ) → published ≢ 0 → n ≡ 0 →
      CameTo host floor (FromPublished n flags s published) n flags look (Ended (Ok Zero)) h h s buf
  nothing_done published s h buf ready none = (
    record {
      runs = record {
        steps = [];
        outcome = record { ending = no_bytes; state = s; entries = [] };
        does = refl;
        relates = match_false _ _ _ (ne-eqb published 0 ready) (match_true _ _ _ (eq-eqb n 0 none)
            (record { steps_are = refl; outcome_is = refl }));
        state = refl;
        ends = refl;
      };
      climbs = omega arith;
    },
    refl,
  )
