use Rattle.srm_model.proofs.WithoutScopes.{all_is_wide}
use Rattle.srm_model.proofs.laws_of_scopes.without_scopes_all_is_wide.Goals as goal

pub returns : goal.returns
returns c = all_is_wide
