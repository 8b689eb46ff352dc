-- The steps of the sample and of the integer reads on a new table, and the effects of these steps in the final lists.
use Rattle.std.proofs.Common.{◌≡◌, ℕ, ◌-◌, ◌≤◌, ◌^◌, List, [], ◌∷◌, ◌++◌, length, refl, sym, ap, ◌∙◌, subst, arith}
use Rattle.std.specs.List.{range_with_len}
use Rattle.std.proofs.lemmas.List.{length-map}
use Rattle.std.proofs.lemmas.List.FromFn.{length-range_with_len}
use Rattle.key_names.specs.declared.events.Event.TheVariants.{Add, Int32}
use Rattle.key_names.specs.declared.events.Answer.TheVariants.{Ok as Done}
use Rattle.key_names.specs.declared.names.Step.{Step}
use Rattle.key_names.specs.Lanes.Book.{LawfulLanes}
use Rattle.key_names.specs.Callers.Effects.{effects_of}
use Rattle.key_names.specs.Transcripts.IsTranscript.{MarkBy, marks_from}
use Rattle.key_names.specs.Transcripts.SeenLine.{bytes_or_none, no_data}
use Rattle.key_names.proofs.Uses.BookUses.{lawful_is_disjoint}
use Rattle.lane_table.specs.declared.view.View.{View}
use Rattle.lane_table.specs.declared.view.Visit.{Visit}
use Rattle.lane_table.specs.BookLaws.{Continues}
use Rattle.lane_table.specs.BookLists.{StateLists, book_lists, book_of}
use Rattle.lane_table.specs.Calls.{Ended}
use Rattle.lane_table.specs.WorldRule.{known_of}
use Rattle.lane_table.proofs.Book.BookEnds.{continues_before, ended_lanes, ended_lawful}
use Rattle.lane_table.proofs.Lists.VisitLists.{begins_refl}
use Rattle.rng_core.specs.declared.setting.Setting.{Setting}
use Rattle.rng_core.specs.Makes.{Makes, IsOutcomeOf, setting_of}
use Rattle.rng_core.specs.Settings.{first_setting}
use Rattle.rng_core.specs.Traces.{knowing}
use Rattle.rng_core.proofs.Paths.{Path, path_none, path_then, path_recorded, path_visits, start}
use Rattle.draw_below.specs.Draws.{Takes}
use Rattle.draw_below.specs.LaneWords.{ReadsWord}
use Rattle.draw_below.specs.TableDraws.{AreTableWords, AreWordCalls, marks_of}

-- from `v` to `w` the words `words` were read, each by its own call
record Reads (v w : View) (words : List ℕ) : Type 0 where
  calls : List (List Step)
  path : Path v w (marks_of calls)
  are : (lanes : ℕ) (visits : ℕ → List Visit) (callers : StateLists) → Continues lanes w visits →
      AreWordCalls (book_lists lanes visits callers) words calls

reads_of : (v w : View) (words : List ℕ) → Takes (ReadsWord (first_setting 0)) v words w → Reads v w words
reads_of v w [] t = record {
  calls = [];
  path = subst (λ (z : View). Path v z []) t (path_none v);
  are = λ lanes visits callers c. tt;
}
reads_of v w (r ∷ rs) t =
    let u : View = t.0 in
    let one : ReadsWord (first_setting 0) v r u = t.1 in
    let rest : Reads u w rs = reads_of u w rs t.2 in
    record {
      calls = one.steps ∷ rest.calls;
      path = path_then v u w (marks_from 0 0 0 one.steps) (marks_of rest.calls)
          (path_recorded (first_setting 0) v u one.steps one.did.made_steps one.did.recorded) rest.path;
      are = λ lanes visits callers c. (
        record {
          bytes = one.bytes;
          fulfils = subst
              (λ (l : List Step). IsOutcomeOf (setting_of (first_setting 0)) Int32 Done (bytes_or_none one.bytes)
              (effects_of (book_lists lanes visits callers) l)) (sym one.did.recorded.trace)
              (one.did.conforms lanes visits callers
              (continues_before lanes u w visits rest.path.same.sized rest.path.grows c));
          word_is = one.word_is;
        },
        rest.are lanes visits callers c,
      );
    }

-- `p` is the view (what a pass knows and did) on a new table, `q` the view after a sample was added, and `w` the view
-- after `words` were read
module _ (set : Setting) (plain : set ≡ first_setting 0) (p q w : View) (words : List ℕ) (new : p ≡ start)
    (sampled : (steps : List Step)
    × Makes (IsOutcomeOf (setting_of set) (Add (range_with_len 0 32) 256) Done no_data) set (knowing p []) (knowing q steps))
    (gave : Takes (ReadsWord set) q words w) where
  added : (steps : List Step)
      × Makes (IsOutcomeOf (setting_of (first_setting 0)) (Add (range_with_len 0 32) 256) Done no_data) (first_setting 0)
      (knowing p []) (knowing q steps)
  added = subst
      (λ (s : Setting). (steps : List Step)
      × Makes (IsOutcomeOf (setting_of s) (Add (range_with_len 0 32) 256) Done no_data) s (knowing p []) (knowing q steps))
      plain sampled

  taken : Takes (ReadsWord (first_setting 0)) q words w
  taken = subst (λ (s : Setting). Takes (ReadsWord s) q words w) plain gave

  reads : Reads q w words
  reads = reads_of q w words taken

  first : Path p q (marks_from 0 0 0 added.0)
  first = path_recorded (first_setting 0) p q added.0 added.1.made_steps added.1.recorded

  abbrev marks : List MarkBy
  marks = marks_from 0 0 0 added.0 ++ marks_of reads.calls

  whole : Path start w marks
  whole = subst (λ (z : View). Path z w marks) new
      (path_then p q w (marks_from 0 0 0 added.0) (marks_of reads.calls) first reads.path)

  wide : length w.lanes ≡ 3
  wide = whole.same.sized

  pub share_is : w.share ≡ 2 ^ w.halvings
  share_is = whole.same.share ∙ ap (λ (n : ℕ). 2 ^ n) (sym whole.same.halvings)

  module _ (at_end : Ended 3 w) where
    low : 2 ≤ length w.lanes
    low = let n = wide in omega arith

    ended : Ended (length w.lanes) w
    ended = subst (λ (n : ℕ). Ended n w) (sym wide) at_end

    goes_on : Continues (length w.lanes) w (known_of w)
    goes_on = record {
      long = refl;
      begins = λ lane near. begins_refl (known_of w lane);
      closed = ended_lanes w [] low ended;
    }

    lawful : LawfulLanes (book_lists (length w.lanes) (known_of w) [])
    lawful = ended_lawful w [] low ended

    pub table_words : AreTableWords words
    table_words = record {
      book = book_of (length w.lanes) (known_of w) [];
      cpus = length-map (range_with_len 0 (length w.lanes - 2)) _ ∙ length-range_with_len 0 (length w.lanes - 2)
          ∙ (let n = wide in omega arith);
      lawful = lawful;
      disjoint = lawful_is_disjoint (book_lists (length w.lanes) (known_of w) []) (record {
        lanes = lawful;
        states = record {
          states = λ caller state. record { comes = tt; ends = refl };
          one_taker = λ a b read is at. absurd cc;
        };
      });
      added = added.0;
      adds = subst
          (λ (l : List Step). IsOutcomeOf (setting_of (first_setting 0)) (Add (range_with_len 0 32) 256) Done no_data
          (effects_of (book_lists (length w.lanes) (known_of w) []) l)) (sym added.1.recorded.trace)
          (added.1.conforms (length w.lanes) (known_of w) []
          (continues_before (length w.lanes) q w (known_of w) reads.path.same.sized reads.path.grows goes_on));
      reads = reads.calls;
      read = reads.are (length w.lanes) (known_of w) [] goes_on;
      visits = path_visits w marks whole ended;
      last = w.stamp;
      in_order = whole.climbs;
    }
