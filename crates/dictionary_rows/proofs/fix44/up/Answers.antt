use Rattle.dictionary_rows.proofs.Complete.{request_is}
use Rattle.dictionary_rows.proofs.fix44.up.Goals as goal

pub request_up-up-requires-clause-sound : goal.request_up-up-requires-clause-sound
request_up-up-requires-clause-sound c =
    request_is c.in-Ok.client c.as_bytes.result.now c.in_ok-split.split.fields
    c.in_ok-split.split.fault c.in_ok-split.ensures.good c.in-Ok.ensures.says
