-- For each caller the code finds the fork that the definitions find: the parent is the same, and so are the parent's
-- steps that come before the child's steps.
use Rattle.std.proofs.Common.{◌≡◌, ℕ, suc, ◌+◌, ◌<◌, Bool, true, false, Option, Some, None, List, [], ◌∷◌, ◌++◌, length, take, refl, sym, subst, ap, ◌∙◌, arith, append_assoc, length-append}
use Rattle.std.specs.Prelude.{◌==◌, if◌then◌else◌}
use Rattle.std.specs.List.{AllByRecursion}
use Rattle.std.proofs.lemmas.Bool.Decides.{nat_tests}
use Rattle.key_names.specs.declared.names.Step.{Step}
use Rattle.key_names.specs.declared.names.Step.TheVariants.{Look, Visit as Marked}
use Rattle.key_names.specs.declared.events.Event.TheVariants.{Fork as ForkEvent}
use Rattle.key_names.specs.Lanes.Book.{list_at}
use Rattle.key_names.specs.Callers.Calls.{Call, alone, ForkPoint, with_call_before, fork_point, Parent, parent_here, parent_from}
use Rattle.key_names.specs.Callers.History.{call_steps, calls_steps, through_visit}
use Rattle.judge_lines.specs.declared.order.Fork.{Fork}
use Rattle.judge_lines.specs.Orders.{forks_in, all_forks, front_in}

through_front : (s r : List Step) → take (length (through_visit s)) (s ++ r) ≡ through_visit s
through_front [] r = refl
through_front (Look g ∷ s) r = ap (λ x. Look g ∷ x) (through_front s r)
through_front (Marked m ∷ s) r = refl

take_past : (a r : List Step) (k : ℕ) → take (length a + k) (a ++ r) ≡ a ++ take k r
take_past [] r k = ap (λ n. take n r) (omega arith)
take_past (x ∷ a) r k =
    let e : length (x ∷ a) + k ≡ suc (length a + k) = omega arith in
    ap (λ n. take n (x ∷ (a ++ r))) e ∙ ap (λ s. x ∷ s) (take_past a r k)

-- the parent's own steps that come before the child's: all steps up to and including the first visit of the fork's line
abbrev pub steps_before : ForkPoint → List Step
steps_before f = calls_steps f.before ++ through_visit f.line.steps

-- `f` is the point in `calls` at which caller c is first forked. Caller p makes `calls`, after k earlier calls with n
-- steps
record Found (c p k n : ℕ) (calls : List Call) (more : List Fork) (f : ForkPoint) : Type 0 where
  fork : Fork
  here : front_in c (forks_in p k n calls ++ more) ≡ Some fork
  parent : fork.parent ≡ p
  calls_before : fork.calls ≡ k + length f.before
  before : take (length f.before) calls ≡ f.before
  short : length f.before < length calls
  steps : fork.steps ≡ n + length (steps_before f)
  front : take (length (steps_before f)) (calls_steps calls) ≡ steps_before f

abbrev AtPoint : ℕ → ℕ → ℕ → ℕ → List Call → List Fork → Option ForkPoint → Type 0
AtPoint c p k n calls more None = front_in c (forks_in p k n calls ++ more) ≡ front_in c more
AtPoint c p k n calls more (Some f) = Found c p k n calls more f

one_more : (c p k n : ℕ) (call : Call) (calls : List Call) (more : List Fork) (o : Option ForkPoint) →
    front_in c (forks_in p k n (call ∷ calls) ++ more)
    ≡ front_in c (forks_in p (suc k) (n + length (call_steps call)) calls ++ more) →
    AtPoint c p (suc k) (n + length (call_steps call)) calls more o →
    AtPoint c p k n (call ∷ calls) more (with_call_before call o)
one_more c p k n call calls more None same at = same ∙ at
one_more c p k n call calls more (Some f) same at =
    let own : List Step = call_steps call in
    let joined : (own ++ calls_steps f.before) ++ through_visit f.line.steps ≡ own ++ steps_before f =
    append_assoc own (calls_steps f.before) (through_visit f.line.steps) in
    let long : length (own ++ steps_before f) ≡ length own + length (steps_before f) =
    length-append own (steps_before f) in
    let more_steps : n + length (own ++ steps_before f) ≡ n + length own + length (steps_before f) = omega arith in
    let more_calls : suc k + length f.before ≡ k + suc (length f.before) = omega arith in record {
      fork = at.fork;
      here = same ∙ at.here;
      parent = at.parent;
      calls_before = at.calls_before ∙ more_calls;
      before = ap (λ (cs : List Call). call ∷ cs) at.before;
      short = omega (arith, at.short);
      steps = at.steps ∙ sym more_steps ∙ sym (ap (λ (s : List Step). n + length s) joined);
      front = ap (λ (s : List Step). take (length s) (own ++ calls_steps calls)) joined
          ∙ ap (λ m. take m (own ++ calls_steps calls)) long ∙ take_past own (calls_steps calls) (length (steps_before f))
          ∙ ap (λ s. own ++ s) at.front ∙ sym joined;
    }

at_point : (c p k n : ℕ) (calls : List Call) (more : List Fork) → AtPoint c p k n calls more (fork_point c calls)
at_point c p k n [] more = refl
at_point c p k n (alone (ForkEvent child) line ∷ calls) more = by (child == c) refl
    (at_point c p (suc k) (n + length line.steps) calls more)
  where
    by : (b : Bool) → (child == c) ≡ b → AtPoint c p (suc k) (n + length line.steps) calls more (fork_point c calls) →
        AtPoint c p k n (alone (ForkEvent child) line ∷ calls) more
        (if b then Some (record { before = []; line = line })
        else with_call_before (alone (ForkEvent child) line) (fork_point c calls))
    by true is rest = record {
      fork = record { parent = p; child = child; calls = k; steps = n + length (through_visit line.steps) };
      here = rw is refl;
      parent = refl;
      calls_before = omega arith;
      before = refl;
      short = omega arith;
      steps = refl;
      front = through_front line.steps (calls_steps calls);
    }
    by false is rest =
        one_more c p k n (alone (ForkEvent child) line) calls more (fork_point c calls) (rw is refl) rest
at_point c p k n (call ∷ calls) more = one_more c p k n call calls more (fork_point c calls) refl
    (at_point c p (suc k) (n + length (call_steps call)) calls more)

-- the callers in `callers` have the numbers from p on, and caller p + k makes the first fork that makes caller c
pub record FoundIn (c p : ℕ) (callers : List (List Call)) (parent : Parent) : Type 0 where
  pub fork : Fork
  pub here : front_in c (all_forks p callers) ≡ Some fork
  pub k : ℕ
  pub among : k < length callers
  pub caller : parent.caller ≡ p + k
  pub parent_is : fork.parent ≡ p + k
  pub calls_before : fork.calls ≡ length parent.fork.before
  pub before : take (length parent.fork.before) (list_at callers k) ≡ parent.fork.before
  pub short : length parent.fork.before < length (list_at callers k)
  pub steps : fork.steps ≡ length (steps_before parent.fork)
  pub front : take (length (steps_before parent.fork)) (calls_steps (list_at callers k)) ≡ steps_before parent.fork

abbrev pub AtParent : ℕ → ℕ → List (List Call) → Option Parent → Type 0
AtParent c p callers None = front_in c (all_forks p callers) ≡ None
AtParent c p callers (Some parent) = FoundIn c p callers parent

later : (c p : ℕ) (calls : List Call) (callers : List (List Call)) (o : Option Parent) →
    front_in c (all_forks p (calls ∷ callers)) ≡ front_in c (all_forks (suc p) callers) → AtParent c (suc p) callers o →
    AtParent c p (calls ∷ callers) o
later c p calls callers None same at = same ∙ at
later c p calls callers (Some parent) same at = record {
  fork = at.fork;
  here = same ∙ at.here;
  k = suc at.k;
  among = omega (arith, at.among);
  caller = omega (arith, at.caller);
  parent_is = omega (arith, at.parent_is);
  calls_before = at.calls_before;
  before = at.before;
  short = at.short;
  steps = at.steps;
  front = at.front;
}

pub at_parent : (c p : ℕ) (callers : List (List Call)) → AtParent c p callers (parent_from c p callers)
at_parent c p [] = refl
at_parent c p (calls ∷ callers) =
    by (fork_point c calls) (at_point c p 0 0 calls (all_forks (suc p) callers)) (at_parent c (suc p) callers)
  where
    by : (o : Option ForkPoint) → AtPoint c p 0 0 calls (all_forks (suc p) callers) o →
        AtParent c (suc p) callers (parent_from c (suc p) callers) →
        AtParent c p (calls ∷ callers) (parent_here p o (parent_from c (suc p) callers))
    by None at rest = later c p calls callers (parent_from c (suc p) callers) at rest
    by (Some f) at rest = record {
      fork = at.fork;
      here = at.here;
      k = 0;
      among = omega arith;
      caller = omega arith;
      parent_is = at.parent ∙ omega arith;
      calls_before = at.calls_before ∙ omega arith;
      before = at.before;
      short = at.short;
      steps = at.steps ∙ omega arith;
      front = at.front;
    }

-- if each fork's parent has a lower number than its child, the parent of caller c has a lower number than c
pub rises : (c : ℕ) (forks : List Fork) (fork : Fork) → AllByRecursion (λ f. f.parent < f.child) forks →
    front_in c forks ≡ Some fork → fork.parent < c
rises c [] fork all here = cc
rises c (f ∷ forks) fork all here = by (f.child == c) refl here (λ e. rises c forks fork all.1 e)
  where
    by : (b : Bool) → (f.child == c) ≡ b → (if b then Some f else front_in c forks) ≡ Some fork →
        (front_in c forks ≡ Some fork → fork.parent < c) → fork.parent < c
    by true is e later =
        let same : f.child ≡ c = grind (arith, nat_tests) in let this : f ≡ fork = cc in
        subst (λ (x : Fork). x.parent < c) this (subst (λ n. f.parent < n) same all.0)
    by false is e later = later e
