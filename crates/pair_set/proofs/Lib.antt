mod KeyLaws
