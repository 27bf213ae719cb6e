-- Inside: where the connector keeps its connection.
use Rattle.std.specs.Prelude.{Bool, true, false}
use Rattle.edge_system.specs.declared.venue_connector.Stage.{Stage}
use Rattle.edge_system.specs.declared.venue_connector.Stage.TheVariants as stage

-- whether a connect was begun that is not answered
abbrev pub is_asked : Stage → Bool
is_asked stage.Off = false
is_asked (stage.Asked stream since) = true
is_asked (stage.On link) = false

-- whether there is a connection
abbrev pub is_on : Stage → Bool
is_on stage.Off = false
is_on (stage.Asked stream since) = false
is_on (stage.On link) = true
