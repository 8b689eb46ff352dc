use Rattle.std.proofs.Common.{◌∙◌, ◌≡◌, ◌-◌, [], ap, arith, length, subst, sym}
use Rattle.std.specs.Prelude.{drop}
use Rattle.std.proofs.lemmas.List.{length-drop, length-take, take_all}
use Rattle.key_names.specs.Texts.ScriptFaults.{front}
use Rattle.tool_ends.specs.After.{HoldsText}
use Rattle.tool_ends.proofs.intake.open.Goals as goal

pub returns-clause-opened : goal.returns-clause-opened
returns-clause-opened g c =
    let input = c.args.input.now in
    let at = c.in-Ok.both.1 in
    let len : length (front input) ≡ at =
    omega (arith, ap length c.in-Ok.ensures.place, length-take at input, c.in-Ok.ensures.within) in
    record {
      is_script = c.in-Ok.ensures.found;
      within = omega (arith, len, c.in-Ok.ensures.within);
      holds = subst (λ all. HoldsText all c.take.new.self)
          (take_all _ (drop at input) (omega (arith, length-drop at input)) ∙ ap (λ n. drop n input) (sym len))
          (c.in_ok-take.ensures.more [] c.in_ok-text.ensures.holds);
    }

pub take-requires : goal.take-requires
take-requires g c = record {
  short = (
    [],
    c.in_ok-text.ensures.holds,
    omega (
      arith,
      length-take (length c.args.input.now - c.in-Ok.both.1) (drop c.in-Ok.both.1 c.args.input.now),
      length-drop c.in-Ok.both.1 c.args.input.now,
      c.requires.short,
    ),
  );
}
