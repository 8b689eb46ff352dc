use Rattle.std.proofs.Common.{◌≡◌, ℕ, List, ◌++◌, take, subst, ap, ◌∙◌, arith}
use Rattle.std.specs.Prelude.{OnErr}
use Rattle.key_names.specs.Kernel.Keystream.{keystream}
use Rattle.judge_vread.specs.Recipe.{bytes_made}
use Rattle.judge_vread.proofs.ServedBytes.{few_made, put_some}
use Rattle.judge_vread.proofs.served.Served.put.Goals as goal

pub returns-in_err-extend_from_slice-clause-short : goal.returns-in_err-extend_from_slice-clause-short
returns-in_err-extend_from_slice-clause-short c =
    let s = c.self.inside in
    few_made s.front s.key s.front_len s.from s.len c.args.self.now (omega (arith, c.self.invariant.0, c.self.told.0))
    c.self.invariant.2 c.self.view_is

pub returns-clause-short : goal.returns-clause-short
returns-clause-short c =
    let s = c.self.inside in
    few_made s.front s.key s.front_len s.from s.len c.args.self.now (omega (arith, c.self.invariant.0, c.self.told.0))
    c.self.invariant.2 c.self.view_is

pub returns-clause-part : goal.returns-clause-part
returns-clause-part c =
    let s = c.self.inside in
    let out = c.args.out.now.items in
    let front : List ℕ = take c.from.result s.front in
    let made : List ℕ = keystream s.key s.from s.len in
    let made_is : front ++ made ≡ bytes_made c.args.self.now =
    ap (λ k. take k s.front ++ made) c.from.ensures ∙ ap bytes_made c.self.view_is in
    subst (λ (bytes : List ℕ). OnErr c.put_key.result ((n : ℕ) × (c.put_key.new.out.items ≡ out ++ take n bytes)))
    made_is
    (put_some c.put_key.result out c.extend_from_slice.new.self.items c.put_key.new.out.items front made
    c.in_ok-extend_from_slice.ensures.items c.put_key.ensures.part)
