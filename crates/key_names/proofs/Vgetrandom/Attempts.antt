-- The host's steps and the result of two attempts: an attempt on a state whose key is current, and an attempt that
-- reads a key.
use Rattle.std.proofs.Common.{◌≡◌, ℕ, Bool, true, false, Option, List, [], ◌∷◌, ◌++◌, refl, sym, subst}
use Rattle.std.specs.Prelude.{◌==◌, MatchBool, if◌then◌else◌}
use Rattle.key_names.specs.declared.point.Point.TheVariants.{Start, Written, Serve, End}
use Rattle.key_names.specs.Kernel.VgetrandomState.{VgetrandomState, state_left}
use Rattle.key_names.specs.Kernel.BatchCopy.{copy_bytes, state_after_copy, block_after_copy, copy_entries}
use Rattle.key_names.specs.Kernel.Vgetrandom.{CpuPlace, read, HostStep, publishes, system_call, at_point, Attempt, holds, outdated, prefix_attempt, wipe_entry, rekey_entry, AtPoint, FromServe, IsAttempt}

pub match_true : (A B : Type 0) (b : Bool) → b ≡ true → A → MatchBool b A B
match_true A B b is a = subst (λ (x : Bool). MatchBool x A B) (sym is) a

pub match_false : (A B : Type 0) (b : Bool) → b ≡ false → B → MatchBool b A B
match_false A B b is h = subst (λ (x : Bool). MatchBool x A B) (sym is) h

-- the result of an attempt after the point Serve. `wiped` is true if the state is wiped at End
abbrev pub served_attempt : ℕ → ℕ → ℕ → Bool → VgetrandomState → Attempt
served_attempt n c end wiped s = record {
  out = copy_bytes s c n;
  state = state_left wiped (state_after_copy s c n);
  next_block = block_after_copy s c n;
  entries = copy_entries s c n ++ (wipe_entry wiped ++ []);
  end = if (state_left wiped (state_after_copy s c n)).generation == end then holds else outdated;
}

abbrev pub serve_steps : Bool → Bool → ℕ → List HostStep
serve_steps at_serve at_end end = at_point Serve at_serve ∷ at_point End at_end ∷ publishes end ∷ []

abbrev pub copy_attempt : ℕ → ℕ → ℕ → Bool → Bool → VgetrandomState → Attempt
copy_attempt n c end at_serve at_end s =
    prefix_attempt (wipe_entry at_serve) (served_attempt n c end at_end (state_left at_serve s))

pub from_serve : (n c end : ℕ) (at_end : Bool) (s : VgetrandomState) →
    FromServe n c s (at_point End at_end ∷ publishes end ∷ []) (served_attempt n c end at_end s)
from_serve n c end at_end s = record {
  attempt_after = _;
  goes_on = record {
    wiped = at_end;
    rest = _;
    attempt_after = _;
    steps_are = refl;
    goes_on = record { published = end; steps_are = refl; attempt_is = refl };
    attempt_is = refl;
  };
  attempt_is = refl;
}

serve_point : (n c end : ℕ) (at_serve at_end : Bool) (s : VgetrandomState) →
    AtPoint Serve (FromServe n c) s (serve_steps at_serve at_end end) (copy_attempt n c end at_serve at_end s)
serve_point n c end wiped at_end s = record {
  wiped = wiped;
  rest = _;
  attempt_after = served_attempt n c end at_end (state_left wiped s);
  steps_are = refl;
  goes_on = from_serve n c end at_end (state_left wiped s);
  attempt_is = refl;
}

-- the steps of an attempt on a state whose key is current. `at_start`, `at_serve` and `at_end` are true if the state is
-- wiped at that point
abbrev pub current_steps : ℕ → Bool → Bool → Bool → ℕ → List HostStep
current_steps published at_start at_serve at_end end =
    publishes published ∷ at_point Start at_start ∷ serve_steps at_serve at_end end

pub current_attempt : (n c published end : ℕ) (at_start at_serve at_end : Bool) (s : VgetrandomState) →
    ((state_left at_start s).generation == published) ≡ true →
    IsAttempt n c s (current_steps published at_start at_serve at_end end)
    (prefix_attempt (wipe_entry at_start) (copy_attempt n c end at_serve at_end (state_left at_start s)))
current_attempt n c published end at_start at_serve at_end s current = record {
  published = published;
  rest = _;
  steps_are = refl;
  goes_on = record {
    wiped = at_start;
    rest = _;
    attempt_after = _;
    steps_are = refl;
    goes_on = match_true _ _ _ current (serve_point n c end at_serve at_end (state_left at_start s));
    attempt_is = refl;
  };
}

-- the state after its new key was read; `at_written` is true if the state was wiped at the point Written
abbrev pub keyed_state : ℕ → List ℕ → Bool → VgetrandomState → VgetrandomState
keyed_state published key at_written s =
    record (state_left at_written (record s { generation = published })) { key = key; pos = 96 }

-- the steps of an attempt that reads a key. `at_start`, `at_written`, `at_serve` and `at_end` are true if the state is
-- wiped at that point
abbrev pub keyed_steps : ℕ → List ℕ → Option CpuPlace → Bool → Bool → Bool → Bool → ℕ → List HostStep
keyed_steps published key visit at_start at_written at_serve at_end end =
    publishes published ∷ at_point Start at_start ∷ at_point Written at_written
    ∷ system_call 32 0 (read key visit) ∷ serve_steps at_serve at_end end

pub keyed_attempt : (n c published end : ℕ) (key : List ℕ) (visit : Option CpuPlace)
    (at_start at_written at_serve at_end : Bool) (s : VgetrandomState) →
    ((state_left at_start s).generation == published) ≡ false →
    IsAttempt n c s (keyed_steps published key visit at_start at_written at_serve at_end end)
    (prefix_attempt (wipe_entry at_start) (prefix_attempt (wipe_entry at_written) (prefix_attempt (rekey_entry visit)
    (copy_attempt n c end at_serve at_end (keyed_state published key at_written (state_left at_start s))))))
keyed_attempt n c published end key visit at_start at_written at_serve at_end s other = record {
  published = published;
  rest = _;
  steps_are = refl;
  goes_on = record {
    wiped = at_start;
    rest = _;
    attempt_after = _;
    steps_are = refl;
    goes_on = match_false _ _ _ other (record {
      wiped = at_written;
      rest = _;
      attempt_after = _;
      steps_are = refl;
      goes_on = record {
        answer = read key visit;
        rest = _;
        steps_are = refl;
        goes_on = record {
          attempt_after = _;
          goes_on = serve_point n c end at_serve at_end (keyed_state published key at_written (state_left at_start s));
          attempt_is = refl;
        };
      };
      attempt_is = refl;
    });
    attempt_is = refl;
  };
}
