-- Roles of members.
use Rattle.std.specs.Prelude.{Bool, true, false}
use Rattle.srm_net.specs.declared.role.Role.{Role}
use Rattle.srm_net.specs.declared.role.Role.TheVariants.{Sender, Late, Listener}

-- a sender
abbrev pub is_sender : Role → Bool
is_sender Sender = true
is_sender _ = false

-- a late joiner
abbrev pub is_late : Role → Bool
is_late Late = true
is_late _ = false

-- a listener
abbrev pub is_listener : Role → Bool
is_listener Listener = true
is_listener _ = false
