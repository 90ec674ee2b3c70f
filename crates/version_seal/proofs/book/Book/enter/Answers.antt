use Rattle.version_seal.proofs.book.Book.enter.Goals as goal

-- a version that was sealed before gives no `Ok`, so nothing is to be shown
pub returns-in-Some-clause-ok : goal.returns-in-Some-clause-ok
returns-in-Some-clause-ok c = tt
