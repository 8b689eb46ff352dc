-- While draws take words from the core, the source of the words keeps its lanes, pass and setting, and each word comes
-- from a call of that pass.
use Rattle.std.proofs.Common.{ℕ, List, [], ◌∷◌, refl, ap, ◌∙◌, subst}
use Rattle.lane_table.specs.Calls.{view}
use Rattle.rng_core.specs.declared.setting.Setting.{Setting}
use Rattle.draw_below.specs.Draws.{Takes}
use Rattle.draw_below.specs.LaneWords.{GivesInt, ReadsWord, SameSource}
use Rattle.draw_below.specs.declared.lane_words.LaneWords.{LaneWords}

pub same_source : (w : LaneWords) (rs : List ℕ) (u : LaneWords) → Takes GivesInt w rs u → SameSource w u
same_source w [] u t = subst (SameSource w) t (record { lanes = refl; pass = refl; set = refl })
same_source w (r ∷ rs) u t =
    let first = t.1.1 in
    let rest = same_source t.0 rs u t.2 in
    record { lanes = rest.lanes ∙ first.lanes; pass = rest.pass ∙ first.pass; set = rest.set ∙ first.set }

pub words_read : (w : LaneWords) (rs : List ℕ) (u : LaneWords) → Takes GivesInt w rs u →
    Takes (ReadsWord w.set) (view w.pass.now) rs (view u.pass.now)
words_read w [] u t = ap (λ (x : LaneWords). view x.pass.now) t
words_read w (r ∷ rs) u t =
    let v : LaneWords = t.0 in (
      view v.pass.now,
      t.1.0,
      subst (λ (set : Setting). Takes (ReadsWord set) (view v.pass.now) rs (view u.pass.now)) t.1.1.set
          (words_read v rs u t.2),
    )
