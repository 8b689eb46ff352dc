-- The first lines of a text determine the start of its script, whatever follows.
use Rattle.std.proofs.Common.{◌≡◌, ℕ, ◌+◌, ◌<◌, length, arith, Ok, Err, List, ◌++◌, refl, sym, ap, ◌∙◌}
use Rattle.std.proofs.lemmas.List.{length-append}
use Rattle.key_names.specs.declared.faults.FaultKind.{FaultKind}
use Rattle.key_names.specs.declared.faults.FaultKind.TheVariants.{UnknownWord, Unfinished}
use Rattle.key_names.specs.Texts.ScriptFaults.{◌>>=◌, GoesOn, Ends, at_line, following, after_first, after_line, cpus_in, line_of, nothing_after, parts, script_of_draft, start_in, version_in}
use Rattle.key_names.proofs.Script.Parts.{Lacks, parts_whole}
use Rattle.event_script.specs.Drafts.{draft_as}
use Rattle.event_script.specs.Feeding.{FailsFrom, IsWhole, LeadsTo, goes}
use Rattle.event_script.specs.ScriptViews.{script_error}
use Rattle.event_script.specs.Views.{Fails}
use Rattle.event_script.specs.declared.whole.draft.Draft.{Draft}
use Rattle.event_script.specs.declared.whole.error.LineError.{LineError}
use Rattle.event_script.specs.declared.whole.error.LineError.TheVariants.{Memory, Kind}
use Rattle.event_script.specs.declared.statements.head.Head.{Head}
use Rattle.event_script.specs.declared.script_error.ScriptError.{ScriptError}
use Rattle.event_script.specs.declared.script_error.ScriptError.TheVariants.{Fault, NoMemory}
use Rattle.event_script.specs.declared.whole.stage.ScriptStage.{ScriptStage}
use Rattle.event_script.specs.declared.whole.stage.ScriptStage.TheVariants.{Version, Cpus, Start, Lines, Ended}
use Rattle.event_script.proofs.FirstOfLines.{faults, goes_on, more_after, step_of}
use Rattle.event_script.proofs.WholeLines.{line_stays, rest_is_whole, rest_stays}

-- ---- Two stages of reading in sequence

pub leads_on : (s t u : ScriptStage) (text rest last : List ℕ) → LeadsTo s text t rest → LeadsTo t rest u last
    → LeadsTo s text u last
leads_on s t u text rest last a b = record {
  same = λ later. a.same later ∙ b.same later;
  whole = b.whole;
  number = omega (arith, a.number, b.number);
}

pub fails_on : (s t : ScriptStage) (text rest : List ℕ) (error : ScriptError) → LeadsTo s text t rest → FailsFrom t rest error
    → FailsFrom s text error
fails_on s t text rest (Fault fault) a b = λ later. a.same later ∙ b later
fails_on s t text rest NoMemory a b = tt

pub stays : (s : ScriptStage) (text : List ℕ) → IsWhole text → LeadsTo s text s text
stays s text whole = record { same = λ later. refl; whole = whole; number = omega arith }

-- ---- the first line of a text

module _ (text : List ℕ) (whole : IsWhole text) (some : 0 < length text) where
  pub version_fails : (kind : FaultKind) → version_in (parts 10 text) ≡ Err kind
      → FailsFrom Version text (Fault (record { line = 1; kind = kind }))
  version_fails kind is = λ later. rw (line_stays text whole some later, is) refl

  pub cpus_fails : (version : ℕ) (kind : FaultKind) → cpus_in version (parts 10 text) ≡ Err kind
      → FailsFrom (Cpus version) text (Fault (record { line = 2; kind = kind }))
  cpus_fails version kind is = λ later. rw (line_stays text whole some later, is) refl

  pub start_fails : (head : Head) (error : LineError) → Fails error (start_in head.version head.cpus (parts 10 text))
      → FailsFrom (Start head) text (script_error 3 error)
  start_fails head (Kind kind) is = λ later. rw (line_stays text whole some later, is) refl
  start_fails head Memory is = tt

  pub line_fails : (draft : Draft) (number : ℕ) (error : LineError)
      → Fails error (after_first (draft_as draft) (parts 10 text))
      → FailsFrom (Lines draft number) text (script_error number error)
  line_fails draft number (Kind kind) is = λ later.
      faults (draft_as draft) number (text ++ later) kind
      (ap (λ r. r >>= after_line (draft_as draft)) (line_stays text whole some later) ∙ is)
  line_fails draft number Memory is = tt

  -- if `text` comes after the line `end`, the first line of `text` has a fault, whatever `later` is
  pub end_fails : (number : ℕ) (later : List ℕ) → nothing_after number (parts 10 (text ++ later))
      ≡ at_line number (line_of (parts 10 text) >>= λ line. Err UnknownWord)
  end_fails number later =
      more_after number (text ++ later) (omega (arith, some, length-append text later))
      ∙ ap (λ r. at_line number (r >>= λ line. Err UnknownWord)) (line_stays text whole some later)

  module _ (rest : List ℕ) (cut : parts 10 rest ≡ following (parts 10 text)) (shorter : length rest < length text) where
    pub version_read : (version : ℕ) → version_in (parts 10 text) ≡ Ok version → LeadsTo Version text (Cpus version) rest
    version_read version is = record {
      same = λ later. rw (line_stays text whole some later, is, rest_stays text whole some rest cut later) refl;
      whole = rest_is_whole text whole some rest cut;
      number = omega (arith, shorter);
    }

    pub cpus_read : (head : Head) → cpus_in head.version (parts 10 text) ≡ Ok head.cpus
        → LeadsTo (Cpus head.version) text (Start head) rest
    cpus_read head is = record {
      same = λ later. rw (line_stays text whole some later, is, rest_stays text whole some rest cut later) refl;
      whole = rest_is_whole text whole some rest cut;
      number = omega (arith, shorter);
    }

    pub start_read : (head : Head) (draft : Draft)
        → start_in head.version head.cpus (parts 10 text) ≡ Ok (draft_as draft)
        → LeadsTo (Start head) text (Lines draft 4) rest
    start_read head draft is = record {
      same = λ later. rw (line_stays text whole some later, is, rest_stays text whole some rest cut later) refl;
      whole = rest_is_whole text whole some rest cut;
      number = omega (arith, shorter);
    }

    pub line_read : (draft next : Draft) (number : ℕ)
        → after_first (draft_as draft) (parts 10 text) ≡ Ok (GoesOn (draft_as next))
        → LeadsTo (Lines draft number) text (Lines next (number + 1)) rest
    line_read draft next number is = record {
      same = λ later. goes_on (draft_as draft) (draft_as next) number (text ++ later) (rest ++ later)
          (ap (λ r. r >>= after_line (draft_as draft)) (line_stays text whole some later) ∙ is)
          (sym (rest_stays text whole some rest cut later));
      whole = rest_is_whole text whole some rest cut;
      number = omega (arith, shorter);
    }

    pub end_read : (draft next : Draft) (number : ℕ) → after_first (draft_as draft) (parts 10 text) ≡ Ok Ends
        → draft_as next ≡ draft_as draft → LeadsTo (Lines draft number) text (Ended next (number + 1)) rest
    end_read draft next number is kept = record {
      same = λ later. step_of (draft_as draft) number (text ++ later)
          ∙ rw (line_stays text whole some later, is, rest_stays text whole some rest cut later)
          (ap (λ d. nothing_after (number + 1) (parts 10 (rest ++ later)) >>= λ none. Ok (script_of_draft d)) (sym kept));
      whole = rest_is_whole text whole some rest cut;
      number = omega (arith, shorter);
    }

-- ---- A text that ends in an incomplete line

module _ (front : List ℕ) (clean : Lacks 10 front) where
  cut_off : line_of (parts 10 front) ≡ Err Unfinished
  cut_off = rw (parts_whole 10 front clean) refl

  pub no_version : goes Version (parts 10 front) ≡ Err (record { line = 1; kind = Unfinished })
  no_version = rw cut_off refl

  pub no_cpus : (version : ℕ) → goes (Cpus version) (parts 10 front) ≡ Err (record { line = 2; kind = Unfinished })
  no_cpus version = rw cut_off refl

  pub no_start : (head : Head) → goes (Start head) (parts 10 front) ≡ Err (record { line = 3; kind = Unfinished })
  no_start head = rw cut_off refl

  pub no_end : (draft : Draft) (number : ℕ)
      → goes (Lines draft number) (parts 10 front) ≡ Err (record { line = number; kind = Unfinished })
  no_end draft number = faults (draft_as draft) number front Unfinished (rw cut_off refl)

  pub past_end : (draft : Draft) (number : ℕ) → 0 < length front
      → goes (Ended draft number) (parts 10 front) ≡ Err (record { line = number; kind = Unfinished })
  past_end draft number some = rw (more_after number front some, cut_off) refl
