use Rattle.request_translate.proofs.OneContent.{have_one_content}
use Rattle.request_translate.proofs.laws.requests_have_one_content.Goals as goal

pub returns : goal.returns
returns c = have_one_content
