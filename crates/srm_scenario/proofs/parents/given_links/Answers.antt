use Rattle.std.proofs.Common.{◌≡◌, ◌∙◌, List, true, length, unwrap_or, codes, sym, ap, subst, arith}
use Rattle.std.proofs.lemmas.List.{length-map}
use Rattle.std.specs.List.{list_all}
use Rattle.std.specs.Prelude.{IfOk, if◌then◌else◌}
use Rattle.toml.specs.View.{view, table_view}
use Rattle.srm_net.specs.declared.link.LinkSpec.{LinkSpec}
use Rattle.srm_scenario.specs.Rules.{is_whole, last_number, whole_number_of}
use Rattle.srm_scenario.specs.Described.{links_from, names_parents, parents_in, array_at, version_of}
use Rattle.srm_scenario.proofs.Arrays.{numbers_read, small_numbers}
use Rattle.srm_scenario.proofs.TopFits.{few_parents, whole_parents, few_nodes}
use Rattle.srm_scenario.proofs.parents.given_links.Goals as goal

pub numbers_of-requires : goal.numbers_of-requires
numbers_of-requires c =
    let ms = table_view c.args.table.now in
    let last = last_number (version_of ms) in
    let few = few_nodes (version_of ms) in
    small_numbers last 65535 (omega (arith, few.1)) c.array.result.now
    (ap (list_all (is_whole 0 last)) c.array.ensures ∙ whole_parents ms c.requires)

pub links_from-requires : goal.links_from-requires
links_from-requires c =
    let ms = table_view c.args.table.now in
    let vs = c.array.result.now in
    let few = few_parents ms c.requires in
    let many : length c.as_slice.result.now ≡ length (array_at (codes "parent") ms) =
    ap length (c.as_slice.ensures ∙ c.in_ok-parents.ensures) ∙ length-map vs (λ v. unwrap_or (whole_number_of (view v)) 0)
    ∙ sym (length-map vs view) ∙ ap length c.array.ensures in
    omega (arith, few, many)

pub returns : goal.returns
returns c =
    let ms = table_view c.args.table.now in
    let named : names_parents ms ≡ true = sym c.says.ensures ∙ c.if-not-says.false in
    let parents : c.as_slice.result.now ≡ parents_in ms =
    c.as_slice.ensures ∙ c.in_ok-parents.ensures ∙ numbers_read (codes "parent") ms c.array.result.now c.array.ensures in
    let links : links_from ms 0 c.as_slice.result.now
    ≡ (if names_parents ms then links_from ms 0 (parents_in ms) else c.args.listed.items) =
    ap (links_from ms 0) parents
    ∙ sym (ap (λ b. if b then links_from ms 0 (parents_in ms) else c.args.listed.items) named) in
    subst (λ (ks : List LinkSpec). IfOk c.links_from.result (λ all. all.items ≡ ks)) links c.links_from.ensures
