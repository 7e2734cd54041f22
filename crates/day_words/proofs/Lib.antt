mod AnyBad
