use Rattle.store_map.proofs.MapLaws.{bytes_of-put, bytes_of-put_others, bytes_of-delete, bytes_of-delete_others}
use Rattle.store_map.proofs.laws_of_the_map.puts_and_deletes_change_one_name.Goals as goal

pub returns : goal.returns
returns c = record {
  after_put = bytes_of-put;
  others_after_put = bytes_of-put_others;
  after_delete = bytes_of-delete;
  others_after_delete = bytes_of-delete_others;
}
