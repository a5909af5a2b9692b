use Rattle.headers.proofs.TextLaws.{export_first, export_second, export_put}
use Rattle.headers.proofs.put_export.Goals as goal

pub put_versions-a-requires : goal.put_versions-a-requires
put_versions-a-requires c = search export_first

pub put_created-requires : goal.put_created-requires
put_created-requires c = search export_second

pub returns : goal.returns
returns c = search export_put
