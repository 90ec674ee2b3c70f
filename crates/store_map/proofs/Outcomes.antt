-- What a put, a write and a delete give at each outcome, over what was found under the name.
use Rattle.std.proofs.Common.{◌≡◌, ℕ, ◌+◌, ◌<◌, ◌≤◌, List, length, None, Some, ap, ◌∙◌, nat_lt}
use Rattle.std.proofs.lemmas.Bool.{lt-ltb, le-ltb, cond-true, cond-false}
use Rattle.store_map.specs.Content.{content_bytes, content_length, overwrite}
use Rattle.store_map.specs.PlainMap.{Objects, bytes_of, put, put_sized, write_at}
use Rattle.store_map.specs.declared.content.Content.{Content}
use Rattle.store_map.specs.declared.reply.Reply.TheVariants.{Done, NoSuch, OutRange, TooLarge}

module _ (max : ℕ) (name : List ℕ) (content : Content) (objects : Objects) where
  pub put_sized-large : max < content_length content → put_sized max name content objects ≡ (objects, TooLarge)
  put_sized-large h = cond-true (nat_lt max (content_length content)) _ _ (lt-ltb max (content_length content) h)

  pub put_sized-fits : content_length content ≤ max → put_sized max name content objects ≡ (put name (content_bytes content) objects, Done)
  put_sized-fits h = cond-false (nat_lt max (content_length content)) _ _ (le-ltb max (content_length content) h)

  module _ (offset : ℕ) where
    pub write_at-missing : bytes_of name objects ≡ None → write_at max name offset content objects (bytes_of name objects) ≡ (objects, NoSuch)
    write_at-missing found = ap (write_at max name offset content objects) found

    module _ (bytes : List ℕ) (found : bytes_of name objects ≡ Some bytes) where
      pub write_at-out : length bytes < offset → write_at max name offset content objects (bytes_of name objects) ≡ (objects, OutRange)
      write_at-out h =
          ap (write_at max name offset content objects) found
          ∙ cond-true (nat_lt (length bytes) offset) _ _ (lt-ltb (length bytes) offset h)

      pub write_at-large : offset ≤ length bytes → max < offset + content_length content
          → write_at max name offset content objects (bytes_of name objects) ≡ (objects, TooLarge)
      write_at-large h large =
          ap (write_at max name offset content objects) found
          ∙ cond-false (nat_lt (length bytes) offset) _ _ (le-ltb (length bytes) offset h)
          ∙ cond-true (nat_lt max (offset + content_length content)) _ _ (lt-ltb max (offset + content_length content) large)

      pub write_at-fits : offset ≤ length bytes → offset + content_length content ≤ max
          → write_at max name offset content objects (bytes_of name objects) ≡ (put name (overwrite bytes offset (content_bytes content)) objects, Done)
      write_at-fits h fits =
          ap (write_at max name offset content objects) found
          ∙ cond-false (nat_lt (length bytes) offset) _ _ (le-ltb (length bytes) offset h)
          ∙ cond-false (nat_lt max (offset + content_length content)) _ _ (le-ltb max (offset + content_length content) fits)
