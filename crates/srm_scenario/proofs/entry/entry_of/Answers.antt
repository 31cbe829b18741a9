use Rattle.std.proofs.Common.{◌≡◌, ◌∙◌, List, Option, Some, None, is_some, unwrap_or, true, refl, codes, sym, ap, arith}
use Rattle.std.specs.Prelude.{if◌then◌else◌}
use Rattle.std.specs.Option.{option_and_then}
use Rattle.toml.specs.Data.{Data, Members, get_member}
use Rattle.toml.specs.View.{table_view}
use Rattle.srm_scenario.specs.declared.entry.MemberEntry.{MemberEntry}
use Rattle.srm_scenario.specs.declared.rule.Rule.{Rule}
use Rattle.srm_scenario.specs.Rules.{fits_rules, member_rules, pages_rule, scope_rule, allows_scopes, whole_number_of}
use Rattle.srm_scenario.specs.Described.{number, scope_of}
use Rattle.srm_scenario.specs.Faults.{entry_of}
use Rattle.srm_scenario.specs.KeyLimits.{greatest_scope}
use Rattle.srm_scenario.specs.declared.file_key.FileKey.TheVariants as key
use Rattle.srm_scenario.proofs.Arrays.{pages_whole, numbers_read}
use Rattle.srm_scenario.proofs.KeyRanges.{or_fits, rule_met}
use Rattle.srm_scenario.proofs.entry.entry_of.Goals as goal

pub numbers_of-requires : goal.numbers_of-requires
numbers_of-requires c =
    let ms = table_view c.args.table.now in
    let h : fits_rules (member_rules c.args.version) ms ≡ true =
    sym (c.fits_rules.ensures ∙ ap (λ (rs : List Rule). fits_rules rs ms) c.member_rules.ensures) ∙ c.if-not-fits_rules.false in
    pages_whole ms c.array.result.now (rule_met (member_rules c.args.version) ms h 5 pages_rule refl) c.array.ensures

pub overflow_cast-result-2 : goal.overflow_cast-result-2
overflow_cast-result-2 c =
    let ms = table_view c.args.table.now in
    let v = c.args.version in
    let h : fits_rules (member_rules v) ms ≡ true =
    sym (c.fits_rules.ensures ∙ ap (λ (rs : List Rule). fits_rules rs ms) c.member_rules.ensures) ∙ c.if-not-fits_rules.false in
    let fits = or_fits (allows_scopes v) key.Scope 0 greatest_scope 0 ms (rule_met (member_rules v) ms h 6 (scope_rule v) refl)
    (omega arith) (omega arith) in
    omega (arith, fits.1, c.number-4.ensures)

-- the scope at the key of a member that is read from its own table
own_scope : (ms : Members) → number (codes "scope") ms ≡ scope_of 0 ms
own_scope ms = by (get_member (codes "scope") ms)
  where
    by : (o : Option Data) → unwrap_or (option_and_then whole_number_of o) 0
        ≡ (if is_some o then unwrap_or (option_and_then whole_number_of o) 0 else 0)
    by None = refl
    by (Some d) = refl

pub returns : goal.returns
returns c =
    let ms = table_view c.args.table.now in
    let h : fits_rules (member_rules c.args.version) ms ≡ true =
    sym (c.fits_rules.ensures ∙ ap (λ (rs : List Rule). fits_rules rs ms) c.member_rules.ensures) ∙ c.if-not-fits_rules.false in
    let pages = c.in_ok-pages.ensures ∙ numbers_read (codes "pages") ms c.array.result.now c.array.ensures in
    let scope = c.number-4.ensures ∙ own_scope ms in
    let same : record {
      spec = record {
        node = c.number.result;
        role = c.role.result;
        stream = c.number-2.result;
        join = c.number-3.result;
        leave = c.optional_number.result;
        pages = c.in_ok-pages.pages;
        scope = c.number-4.result;
      };
      has_pages = c.has_key.result;
      has_scope = c.has_key-2.result;
    } ≡ entry_of 0 ms = (λ i. record {
      spec = record {
        node = c.number.ensures i;
        role = c.role.ensures i;
        stream = c.number-2.ensures i;
        join = c.number-3.ensures i;
        leave = c.optional_number.ensures i;
        pages = pages i;
        scope = scope i;
      };
      has_pages = c.has_key.ensures i;
      has_scope = c.has_key-2.ensures i;
    }) in
    ap (λ (e : MemberEntry). Some e) same ∙ sym (ap (λ b. if b then Some (entry_of 0 ms) else None) h)
