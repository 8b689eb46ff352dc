-- If the clauses on lines and marks hold, the results of `remake` are right.
use Rattle.std.proofs.Common.{◌≡◌, ℕ, ◌<◌, ◌≤◌, None, List, length, map, sym, subst, ap, ◌∙◌, arith}
use Rattle.std.specs.Prelude.{◌↔◌, IsTrue}
use Rattle.std.specs.List.{AllByRecursion}
use Rattle.std.specs.Global.{Vec}
use Rattle.std.proofs.lemmas.List.{length-map}
use Rattle.key_names.specs.Lanes.Book.{Book, Lists, LawfulLanes, lists_of, list_at}
use Rattle.key_names.specs.Callers.Calls.{Call}
use Rattle.key_names.specs.Callers.History.{caller_orders}
use Rattle.key_names.specs.Texts.ScriptGrammar.{Script, WellFormed}
use Rattle.key_names.specs.Transcripts.SeenLine.{SeenLine}
use Rattle.key_names.specs.Transcripts.IsTranscript.{MadeBook, script_calls, start_setting, EachCaller, EachLine}
use Rattle.judge_lines.specs.declared.begin.TranscriptParts.{TranscriptParts}
use Rattle.judge_lines.specs.declared.called.CalledLines.{CalledLines}
use Rattle.judge_lines.specs.declared.order.Fork.{Fork}
use Rattle.judge_lines.specs.Along.{Along}
use Rattle.judge_lines.specs.Begun.{IsEarlyFault, PartsConform}
use Rattle.judge_lines.specs.declared.clause.Clause.{Clause}
use Rattle.judge_lines.specs.declared.clause.Clause.TheVariants.{Lines, Marks, Forms}
use Rattle.judge_lines.specs.Called.{seen_call, seen_calls}
use Rattle.judge_lines.specs.Orders.{all_forks}
use Rattle.judge_lines.proofs.AllCalls.{calls_long}
use Rattle.judge_lines.proofs.ForksRise.{all_rise}
use Rattle.judge_lines.proofs.LineFits.{callers_long}
use Rattle.judge_log.specs.Tables.{Tables}
use Rattle.judge_log.specs.Fills.{Fills}
use Rattle.judge_log.specs.Kept.{Keeps}
use Rattle.judge_log.specs.Lawful.{Lawful}
use Rattle.judge_log.specs.Filled.{AllCallsFill}
use Rattle.judge_log.specs.Gathered.{IsBookOf, IsGathered}
use Rattle.judge_log.specs.declared.said.MadeLine.{MadeLine}
use Rattle.judge_log.specs.Said.{CallInRange, IsSaid, SaysIt}
use Rattle.judge_log.proofs.AnswersMade.CallsRange.{all_in_range}
use Rattle.serial_replay.specs.declared.lists.Basis.{Basis}
use Rattle.serial_replay.specs.declared.remake.Made.{Made}
use Rattle.serial_replay.specs.Found.{BasisConforms}
use Rattle.serial_replay.specs.Remade.{StepsFit, CallersConform, MeansSome, AllMeanSome, AllSaid, said_of_caller, made_by, AllMade}
use Rattle.serial_replay.specs.Remade.{FailsEarly}
use Rattle.serial_replay.specs.Seen.{seen_past, MayLook, reseeds_in}
use Rattle.serial_replay.proofs.Callers.{caller_means, SaidByAll, said_by_all}
use Rattle.serial_replay.proofs.LooksConform.{looks_conform}
use Rattle.serial_replay.proofs.MadeBooks.{stops, made_fills, made_lawful, lines_fill, of_lists}

pub early_fails : (script : Script) (t : List (List SeenLine)) (clause : Clause) → IsEarlyFault script t clause →
    FailsEarly script t clause
early_fails script t Lines f = record { early = tt; fails = f }
early_fails script t Marks f = record { early = tt; fails = f }
early_fails script t clause f = absurd f

module _ (script : Script) (t : List (List SeenLine)) (parts : TranscriptParts) (conform : PartsConform script t parts)
    (well : WellFormed script) where
  pub few_calls : length parts.calls.items ≤ 64
  few_calls =
      let many : length parts.calls.items ≡ length script.callers =
      sym (length-map parts.calls.items (λ (calls : Vec CalledLines). map seen_call calls.items))
      ∙ ap length conform.calls ∙ calls_long script.callers t in
      omega (arith, well.callers.1)

  pub forks_are : parts.forks.items ≡ all_forks 0 (seen_calls parts.calls.items)
  forks_are = conform.forks ∙ ap (all_forks 0) (sym conform.calls)

  pub forks_rise : AllByRecursion (λ fork. fork.parent < fork.child) parts.forks.items
  forks_rise = subst (λ (forks : List Fork). AllByRecursion (λ fork. fork.parent < fork.child) forks) (sym conform.forks)
      (all_rise 0 script.callers t well.above)

  pub in_range : AllByRecursion (AllByRecursion CallInRange) (seen_calls parts.calls.items)
  in_range = subst (λ (calls : List (List Call)). AllByRecursion (AllByRecursion CallInRange) calls) (sym conform.calls)
      (all_in_range script.version script.cpus script.callers t well.ranges)

  -- if no book has the visits of `t` (some line visits a CPU that does not exist), the clause on forms is the first
  -- that fails
  pub none_gathered : ((book : Book) → IsBookOf script t book → ⊥) → FailsEarly script t Forms
  none_gathered none = stops script t parts conform
      (λ m. none m.book (record { cpus = m.forms.cpus; visits = m.forms.visits }))

  -- if no lawful lists match the inferred entries, the clause on forms is the first that fails
  pub none_replayed : (inferred : Tables) → IsGathered script t inferred →
      ((lists : Lists) → Fills inferred lists → Lawful inferred lists → ⊥) → FailsEarly script t Forms
  none_replayed inferred gathered none = stops script t parts conform
      (λ m. none (lists_of m.book) (made_fills script t parts conform inferred gathered m)
      (made_lawful script t parts conform inferred gathered m))

module _ (script : Script) (t : List (List SeenLine)) (basis : Basis) (conform : BasisConforms script t basis) where
  abbrev calls : List (List Call)
  calls = script_calls script t

  -- if the steps of `t` make a book, the data kept in `basis` are right for the book's lists
  pub keeps_made : (m : MadeBook script t) → Keeps basis.lists (lists_of m.book)
  keeps_made m = conform.keeps (lists_of m.book)
      (made_fills script t basis.parts conform.parts conform.inferred conform.gathered m)
      (made_lawful script t basis.parts conform.parts conform.inferred conform.gathered m)

  pub callers_conform : StepsFit t → CallersConform script t (seen_calls basis.parts.calls.items) basis.settings.items
  callers_conform fit = record {
    lines = conform.parts.lines;
    fit = fit;
    calls = conform.parts.calls;
    found = conform.settings;
  }

  -- if the steps of some line match no form of its call, the clause on forms is the first that fails
  pub none_said :
      ((lists : Lists) → Keeps basis.lists lists → LawfulLanes lists →
      AllMeanSome lists (seen_calls basis.parts.calls.items) → ⊥) →
      FailsEarly script t Forms
  none_said none = stops script t basis.parts conform.parts (λ m.
      let lists : Lists = lists_of m.book in
      let means : AllMeanSome lists calls =
      (λ c low. subst (λ n. MeansSome lists (start_setting calls n) (list_at calls c)) (omega arith)
      (caller_means lists (start_setting calls) 0 calls m.meanings m.forms.callers c low)) in
      none lists (keeps_made m) m.forms.lanes (subst (AllMeanSome lists) (sym conform.parts.calls) means))

  pub all_fill : AllCallsFill conform.lists (seen_calls basis.parts.calls.items)
  all_fill = subst (AllCallsFill conform.lists) (sym conform.parts.calls)
      (lines_fill script t basis.parts conform.parts conform.inferred conform.gathered conform.lists conform.fills conform.lawful)

  module _ {Noted : Type 0} (IsNoted : ℕ → ℕ → MadeLine → Noted → Type 0) (m : Made Noted)
      (all : AllSaid IsNoted conform.lists (seen_calls basis.parts.calls.items) m.callers.items) where
    abbrev at : ℕ → ℕ → MadeLine → Type 0
    at = said_of_caller IsNoted (made_by m)

    said : SaidByAll conform.lists (start_setting calls) at 0 calls
    said =
        let each : AllSaid IsNoted conform.lists calls m.callers.items =
        subst (λ cs. AllSaid IsNoted conform.lists cs m.callers.items) conform.parts.calls all in
        said_by_all conform.lists (start_setting calls) at 0 calls (λ d low.
        subst (λ n. IsSaid conform.lists (start_setting calls n) (list_at calls d) (at n)) (omega arith) (each.each d low))

    long : length (made_by m) ≡ length t
    long =
        length-map m.callers.items (λ (s : Vec Noted). s.items) ∙ all.long ∙ ap length conform.parts.calls
        ∙ calls_long script.callers t ∙ sym (callers_long 0 script.callers t conform.parts.lines)

    pub all_made : (reseeds : ℕ) → reseeds ≡ reseeds_in basis.lists.base.items →
        (IsTrue m.looks_conform ↔
        AllByRecursion (Along (seen_past basis.lists) (MayLook reseeds) None) (caller_orders calls)) →
        AllMade IsNoted script t m
    all_made reseeds is looks =
        let both = looks_conform basis.lists conform.lists (conform.keeps conform.lists conform.fills conform.lawful) reseeds is
        (caller_orders calls) in
        let of = of_lists script t basis.parts conform.parts conform.inferred conform.gathered conform.lists conform.fills conform.lawful at
        said in record {
          made = of.made;
          long = long;
          says = subst (λ mss. EachCaller (λ c calls' ms. EachLine (SaysIt (at c)) calls' ms) 0 calls mss)
              (sym of.meanings) said.says;
          looks = of.looks m.looks_conform ((λ h. both.0 (looks.0 h)), (λ h. looks.1 (both.1 h)));
        }
