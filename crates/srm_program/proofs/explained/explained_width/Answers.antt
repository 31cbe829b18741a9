use Rattle.std.proofs.Common.{rules, ◌≡◌, Ok, string_bytes}
use Rattle.srm_net.specs.Least.{least_delay}
use Rattle.srm_scenario.specs.Faults.{scenario_of_text}
use Rattle.srm_scenario.specs.Plain.{network_of}
use Rattle.srm_explain.specs.Explanations.{note}
use Rattle.srm_program.specs.Explained.{width_sentence}
use Rattle.srm_program.proofs.explained.explained_width.Goals as goal

pub returns : goal.returns
returns c =
    let parsed : scenario_of_text c.args.text.now ≡ Ok c.in-Ok.scenario = search rules in
    let told : string_bytes c.in_ok-told.told ≡ note (width_sentence (least_delay (network_of c.in-Ok.scenario))) = search rules in
    (c.in-Ok.scenario, parsed, told)
