-- If a fact holds for the number of each caller, `EachCaller` holds of this fact, and conversely.
use Rattle.std.proofs.Common.{ℕ, zero, suc, ◌+◌, ◌<◌, List, [], ◌∷◌, length, refl, subst, arith}
use Rattle.std.specs.List.{AllByRecursion}
use Rattle.key_names.specs.declared.events.Event.{Event}
use Rattle.key_names.specs.Lanes.Book.{Lists, list_at}
use Rattle.key_names.specs.Callers.Calls.{Setting, Call, all_calls}
use Rattle.key_names.specs.Transcripts.SeenLine.{SeenLine}
use Rattle.key_names.specs.Texts.TranscriptGrammar.{StepFits}
use Rattle.key_names.specs.Callers.Meaning.{CallMeaning}
use Rattle.key_names.specs.Transcripts.IsTranscript.{LinesFit, EachCaller, EachLine, CallerMeans}
use Rattle.judge_log.specs.declared.said.MadeLine.{MadeLine}
use Rattle.judge_log.specs.Said.{SaysIt, IsSaid, AreCallsOf}
use Rattle.serial_replay.specs.Remade.{MeansSome}

pub each_caller : {A B : Type 0} (P Q : ℕ → A → B → Type 0) → ((c : ℕ) (x : A) (y : B) → P c x y → Q c x y) → (c : ℕ)
    (xs : List A) (ys : List B) → EachCaller P c xs ys → EachCaller Q c xs ys
each_caller P Q f c [] [] all = tt
each_caller P Q f c [] (y ∷ ys) all = absurd all
each_caller P Q f c (x ∷ xs) [] all = absurd all
each_caller P Q f c (x ∷ xs) (y ∷ ys) all = (f c x y all.0, each_caller P Q f (suc c) xs ys all.1)

pub caller_means : (lists : Lists) (settings : ℕ → Setting) (c : ℕ) (callers : List (List Call))
    (mss : List (List CallMeaning)) → EachCaller (λ c calls ms. CallerMeans lists (settings c) calls ms) c callers mss →
    (d : ℕ) → d < length callers → MeansSome lists (settings (c + d)) (list_at callers d)
caller_means lists settings c [] mss all d low = absurd (omega arith)
caller_means lists settings c (calls ∷ callers) [] all d low = absurd all
caller_means lists settings c (calls ∷ callers) (ms ∷ mss) all zero low =
    subst (λ n. MeansSome lists (settings n) calls) (omega arith) (record { ms = ms; means = all.0 })
caller_means lists settings c (calls ∷ callers) (ms ∷ mss) all (suc d) low =
    subst (λ n. MeansSome lists (settings n) (list_at callers d)) (omega arith)
    (caller_means lists settings (suc c) callers mss all.1 d (omega arith))

-- the calls of all callers have meanings, and the answers and data of these meanings are those in `saids`
pub record SaidByAll (lists : Lists) (settings : ℕ → Setting) (saids : ℕ → ℕ → MadeLine → Type 0) (c : ℕ)
    (callers : List (List Call)) : Type 0 where
  pub mss : List (List CallMeaning)
  pub means : EachCaller (λ c calls ms. CallerMeans lists (settings c) calls ms) c callers mss
  pub says : EachCaller (λ c calls ms. EachLine (SaysIt (saids c)) calls ms) c callers mss

pub said_by_all : (lists : Lists) (settings : ℕ → Setting) (saids : ℕ → ℕ → MadeLine → Type 0) (c : ℕ) (callers : List (List Call)) →
    ((d : ℕ) → d < length callers → IsSaid lists (settings (c + d)) (list_at callers d) (saids (c + d))) →
    SaidByAll lists settings saids c callers
said_by_all lists settings saids c [] each = record { mss = []; means = tt; says = tt }
said_by_all lists settings saids c (calls ∷ callers) each =
    let first : IsSaid lists (settings c) calls (saids c) =
    subst (λ n. IsSaid lists (settings n) calls (saids n)) (omega arith) (each 0 (omega arith)) in
    let rest : SaidByAll lists settings saids (suc c) callers = said_by_all lists settings saids (suc c) callers
    (λ d low. subst (λ n. IsSaid lists (settings n) (list_at callers d) (saids n)) (omega arith)
    (each (suc d) (omega arith))) in
    record { mss = first.meanings ∷ rest.mss; means = (first.mean, rest.means); says = (first.says, rest.says) }

-- the events and the lines of one caller, which are grouped into its calls
pub record CallsOf (calls : List Call) : Type 0 where
  pub events : List Event
  pub lines : List SeenLine
  pub are : AreCallsOf events lines calls

pub calls_of_caller : (c : ℕ) (ess : List (List Event)) (t : List (List SeenLine)) →
    EachCaller (λ c events lines. LinesFit c 0 events lines) c ess t →
    AllByRecursion (AllByRecursion (λ line. AllByRecursion StepFits line.steps)) t → (d : ℕ) → d < length (all_calls ess t) →
    CallsOf (list_at (all_calls ess t) d)
calls_of_caller c [] t fit near d low = absurd (omega arith)
calls_of_caller c (es ∷ ess) [] fit near d low = absurd fit
calls_of_caller c (es ∷ ess) (ls ∷ t) fit near zero low = record {
  events = es;
  lines = ls;
  are = record { caller = c; fit = fit.0; looks = near.0; are = refl };
}
calls_of_caller c (es ∷ ess) (ls ∷ t) fit near (suc d) low =
    calls_of_caller (suc c) ess t fit.1 near.1 d (omega arith)
