use Rattle.std.proofs.Common.{refl}
use Rattle.csv.specs.Writing.{fields_text, is_blank}
use Rattle.srm_report.proofs.listing.trace.TraceListingListing.header.Goals as goal

pub returns : goal.returns
unfolding fields_text is_blank
returns c = refl
