-- If all inferred rows of the CPUs are in range, the first rows of each CPU are in range.
use Rattle.std.proofs.Common.{◌≡◌, ◌<◌, ◌^◌, List, [], length, map, sym, subst, ◌∙◌, arith}
use Rattle.std.specs.Prelude.{All}
use Rattle.std.specs.Global.{Vec}
use Rattle.std.proofs.lemmas.List.{length-map, get_or-map}
use Rattle.std.proofs.lemmas.List.Elements.{All-get_or}
use Rattle.judge_log.specs.Tables.{CpuIsWide}
use Rattle.judge_log.specs.declared.inferred.InferredCpu.{InferredCpu}
use Rattle.transcript_check.specs.Rows.{AreWide}

abbrev pub items : Vec InferredCpu → List InferredCpu
items lane = lane.items

abbrev pub Wide : List InferredCpu → Type 0
Wide = All (λ (t : InferredCpu). CpuIsWide t.entry)

pub wide_of : (lanes : List (Vec InferredCpu)) → All Wide (map items lanes) → AreWide lanes
wide_of lanes all = λ k d low.
    let long : length (map items lanes) ≡ length lanes = length-map lanes items in
    subst Wide (get_or-map items lanes k d [] low) (All-get_or Wide (map items lanes) k [] (omega arith) all)

pub few_of : (lanes cut : List (Vec InferredCpu)) → length cut ≡ length lanes → length (map items lanes) < 2 ^ 32 →
    length (map items cut) < 2 ^ 32
few_of lanes cut same few =
    subst (λ n. n < 2 ^ 32) (sym (length-map cut items ∙ same ∙ sym (length-map lanes items))) few
