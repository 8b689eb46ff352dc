-- The laws about following a vread over its steps. Each function of src/laws.rt states one of them as its contract.
use Rattle.std.specs.Prelude.{ℕ, ◌≡◌, Some, List, [], ◌∷◌, ◌++◌, map}
use Rattle.std.specs.List.{AllByRecursion}
use Rattle.key_names.specs.declared.entries.Taken.TheVariants.{User}
use Rattle.key_names.specs.declared.entries.VEntry.{VEntry}
use Rattle.key_names.specs.Callers.Calls.{Setting, BoundAct}
use Rattle.key_names.specs.Callers.Effects.{Effect}
use Rattle.key_names.specs.Callers.Answers.{system_answer, served_bytes}
use Rattle.key_names.specs.Transcripts.SeenLine.{bytes_or_none}
use Rattle.key_names.specs.Callers.Meaning.{CallerState, current_state, with_state, LineMeaning, CallMeaning, ActsMean, VreadMeans}
use Rattle.judge_lines.specs.LaneFacts.{LaneFacts, AllFit}
use Rattle.judge_lines.specs.Rows.{IsSystemCall}
use Rattle.judge_lines.specs.Inferred.{AllFill, FillsPart, first_sign}
use Rattle.judge_lines.specs.declared.inferred.Sign.TheVariants.{Nowhere as nowhere}
use Rattle.judge_vread.specs.declared.seen.SeenStep.{SeenStep}
use Rattle.judge_vread.specs.declared.system_call.SystemCallResult.{SystemCallResult}
use Rattle.judge_vread.specs.Recipe.{bytes_made}
use Rattle.judge_vread.specs.Seen.{seen_kind, AllSeen, LookFits}
use Rattle.judge_vread.specs.Inside.{inside_of, includes}
use Rattle.judge_vread.specs.InsideSteps.{inside_after}
use Rattle.judge_vread.specs.Called.{called}
use Rattle.judge_vread.specs.Path.{Followed, followed}

-- each visit of a vread of `n` bytes has the inferred entry. The line's last step is inferred as part of a read of `n`
-- bytes, and each earlier step as part of a read of 32 bytes for a key
abbrev pub VreadFills : LaneFacts → Setting → ℕ → List Effect → Type 0
VreadFills c set n effects = AllFill (FillsPart c set (User 32) (User n) (first_sign effects)) nowhere nowhere effects

-- if all entries of a vread fit (its lanes allow them), its visits have the inferred entries
abbrev pub VreadIsInferred : Type 0
VreadIsInferred = (c : LaneFacts) (n flags : ℕ) (acts : List BoundAct) (m : CallMeaning) → VreadMeans n flags acts m →
    AllFit c m.own.effects → VreadFills c m.before.setting n m.own.effects

-- the meaning of a vread, made from the result `f` of following it
abbrev pub meaning_of : CallerState → List Effect → List LineMeaning → List VEntry → Followed → CallMeaning
meaning_of before effects acts entries f = record {
  own = record {
    effects = effects;
    answer = f.path.answer;
    shown = bytes_or_none (bytes_made f.path.served);
  };
  acts = acts;
  entries = entries;
  before = before;
  after = with_state before f.state;
}

-- if each visit has the inferred entry, and the steps `seen` can be followed with the result `f`, the steps are a
-- vread. Its meaning is made from `f` and some entries of its state's list
abbrev pub FollowedIsVread : Type 0
FollowedIsVread = (c : LaneFacts) (n flags : ℕ) (acts : List BoundAct) (before : CallerState) (effects : List Effect)
    (seen : List SeenStep) (f : Followed) (ms : List LineMeaning) → AllSeen before.setting.cpu seen effects →
    AllByRecursion LookFits seen → VreadFills c before.setting n effects →
    followed n flags (inside_of acts) (current_state before) seen ≡ Some f →
    ActsMean before.setting (λ act. includes f.path.reached act.point) acts ms →
    (entries : List VEntry) × VreadMeans n flags acts (meaning_of before effects ms entries f)

-- the vread can be followed over `seen`, and the result has the answer, bytes and state of the vread's meaning `m`
pub record IsFollowed (n flags : ℕ) (acts : List BoundAct) (m : CallMeaning) (seen : List SeenStep) : Type 0 where
  pub f : Followed
  pub is : followed n flags (inside_of acts) (current_state m.before) seen ≡ Some f
  pub answer : m.own.answer ≡ f.path.answer
  pub shown : m.own.shown ≡ bytes_or_none (bytes_made f.path.served)
  pub after : m.after ≡ with_state m.before f.state
  pub inside : ActsMean m.before.setting (λ act. includes f.path.reached act.point) acts m.acts

abbrev pub VreadIsFollowed : Type 0
VreadIsFollowed = (c : LaneFacts) (n flags : ℕ) (acts : List BoundAct) (m : CallMeaning) (seen : List SeenStep) →
    VreadMeans n flags acts m → AllSeen m.before.setting.cpu seen m.own.effects → AllByRecursion LookFits seen →
    AllFit c m.own.effects → IsFollowed n flags acts m seen

-- if the code recognizes `seen` as a system call, the list of their kinds is a row of a system call
abbrev pub CalledIsRow : Type 0
CalledIsRow = (n flags : ℕ) (seen : List SeenStep) (c : SystemCallResult) → called n flags seen ≡ Some c →
    IsSystemCall n flags (map seen_kind seen)

abbrev pub RowIsCalled : Type 0
RowIsCalled = (n flags : ℕ) (seen : List SeenStep) → IsSystemCall n flags (map seen_kind seen) →
    (c : SystemCallResult) × (called n flags seen ≡ Some c)

-- if each visit has the inferred entry, a system call that the code recognizes has the answer and bytes that its
-- effects give
abbrev pub CalledSays : Type 0
CalledSays = (c : LaneFacts) (set : Setting) (n flags : ℕ) (effects : List Effect) (seen : List SeenStep) (inferred : SystemCallResult) →
    AllSeen set.cpu seen effects → AllFill (FillsPart c set (User n) (User n) (first_sign effects)) nowhere nowhere effects →
    called n flags seen ≡ Some inferred →
    (inferred.answer ≡ system_answer flags effects) × (bytes_made inferred.served ≡ served_bytes effects)

-- if an act is appended to a list of acts, `inside_after` of the list's `Inside` is the `Inside` of the longer list
abbrev pub ActJoins : Type 0
ActJoins = (acts : List BoundAct) (act : BoundAct) →
    inside_of (acts ++ act ∷ []) ≡ inside_after (inside_of acts) act.point act.act
